-- What stands behind the bracket that opens an index list.
use Rattle.std.specs.Prelude.{ℕ, List, [], ◌∷◌, ◌++◌, codes, ℤ}
use Rattle.std.specs.Fmt.{signed_decimal}
use Rattle.dc_run.specs.ReportLine.{rest_of_index_list}

abbrev pub behind_bracket : List ℤ → List ℕ
behind_bracket [] = codes ")"
behind_bracket (z ∷ others) = signed_decimal z ++ rest_of_index_list others
