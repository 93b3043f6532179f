-- How definitions see a loop that the walker found.
use Rattle.dc_tree.specs.Blocks.{Line, Items, line_of, items}
use Rattle.dc_walk.specs.declared.looped.Looped.{Looped}

abbrev pub looped_of : Looped → Line × Items
looped_of found = (line_of found.head.now, items found.body.now)
