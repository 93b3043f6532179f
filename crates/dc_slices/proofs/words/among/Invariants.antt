use Rattle.std.proofs.Common.{◌≡◌, drop}
use Rattle.dc_slices.specs.Words.{keyword_among}
use Rattle.dc_slices.proofs.words.among.Given as goal

abbrev pub invariant-loop-keyword : goal.invariant-loop-keyword
invariant-loop-keyword l = keyword_among (drop l.keyword-index l.keywords) l.text ≡ keyword_among l.keywords l.text
