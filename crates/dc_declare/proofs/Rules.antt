-- Rules by which functions prove.
use Rattle.std.proofs.lemmas.List.{length-map}

pub ruleset counting = (length-map)
