-- What functions that read use.
use Rattle.std.proofs.Common.{◌≡◌, Bool, List, [], ◌∷◌, map, refl, ap}
use Rattle.dc_slices.specs.declared.reading.Reading.{Reading}
use Rattle.dc_slices.specs.Judging.{seen}
use Rattle.dc_slices.proofs.Judged.{seen-added, gathered-items, judged-nothing, judged-plain, judged-leaf, judged-mapped, judged-both}
use Rattle.dc_tree.proofs.Views.{tree-Chars}

pub seen-same : {A : Type 0} (r : Reading A) → seen (λ a. a) r ≡ r
seen-same Reading.Nothing = refl
seen-same Reading.Deep = refl
seen-same (Reading.Whole a) = refl

map-same : {A : Type 0} (items : List A) → map (λ a. a) items ≡ items
map-same [] = refl
map-same (first ∷ rest) = ap (λ (more : List _). first ∷ more) (map-same rest)

pub seen-same_list : {A : Type 0} (r : Reading (List A)) → seen (map (λ a. a)) r ≡ r
seen-same_list Reading.Nothing = refl
seen-same_list Reading.Deep = refl
seen-same_list (Reading.Whole items) = ap Reading.Whole (map-same items)

pub seen-same_args : {A : Type 0} (r : Reading (Bool × List A)) → seen (λ args. (args.0, map (λ a. a) args.1)) r ≡ r
seen-same_args Reading.Nothing = refl
seen-same_args Reading.Deep = refl
seen-same_args (Reading.Whole args) = ap (λ (items : List _). Reading.Whole (args.0, items)) (map-same args.1)

pub ruleset seen_same = (seen-same, seen-same_list, seen-same_args)

pub ruleset list_lemmas = (seen-added, gathered-items)

pub ruleset literal_lemmas = (judged-leaf, tree-Chars)

pub ruleset judged_lemmas = (judged-nothing, judged-plain, judged-mapped, judged-both)
