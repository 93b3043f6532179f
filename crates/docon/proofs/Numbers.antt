-- What std reads of a number's digits is the number that they write.
use Rattle.std.proofs.Common.{◌≡◌, ◌≤◌, ℕ, true, List, length, arith, rules, Result, Ok}
use Rattle.std.specs.List.{list_all}
use Rattle.std.specs.Str.Parse.{ParsesUnsigned}
use Rattle.std.proofs.lemmas.Str.Parse.{IsNumeralModel, numerals_by_fold, parse_gives, digits_value_short}
use Rattle.dc_tree.specs.Literals.{number_from, number_of}
use Rattle.docon.specs.Words.{is_digit}

own : IsNumeralModel (λ ds. list_all is_digit ds ≡ true) (number_from 0)
own = numerals_by_fold _ (search rules) number_from (search rules)

pub parsed : {E : Type 0} (word : List ℕ) (r : Result ℕ E) → ParsesUnsigned 64 10 word r → list_all is_digit word ≡ true → 1 ≤ length word → length word ≤ 10
    → r ≡ Ok (number_of word)
parsed word r h digits some few = parse_gives own 64 word r h digits some (omega (arith, digits_value_short own word 10 digits few))
