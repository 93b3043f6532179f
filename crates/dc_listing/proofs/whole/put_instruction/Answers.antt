use Rattle.std.proofs.Common.{◌≡◌, [], ◌∷◌, ◌++◌, List, ℕ, ap, ◌∙◌}
use Rattle.std.proofs.lemmas.Result.{on_ok_weaker}
use Rattle.dc_listing.specs.Words.{Word, fields, number}
use Rattle.dc_listing.specs.Instructions.{name, operands}
use Rattle.dc_listing.proofs.Fields.{more_words}
use Rattle.dc_listing.proofs.Sections.{line_made}
use Rattle.dc_listing.proofs.whole.put_instruction.Goals as goal

pub returns : goal.returns
returns c =
    let from = c.args.instruction.line in
    let what = c.args.instruction.what in
    let front : List Word = number from ∷ name what ∷ [] in
    let two : c.put_word.new.text ≡ c.put_digits.new.text ++ fields front =
    c.in_ok-put_word.ensures
    ∙ ap (λ (word : List ℕ). c.put_number.new.text ++ fields (word ∷ [])) c.name.ensures
    ∙ ap (λ (text : List ℕ). text ++ fields (name what ∷ [])) (c.in_ok-put_number.ensures ∙ ap (λ n. c.put_digits.new.text ++ fields (number n ∷ [])) c.from.ensures)
    ∙ more_words c.put_digits.new.text (number from ∷ []) (name what ∷ []) in
    on_ok_weaker c.push.result
    (line_made c.args.text.now (number c.args.place) c.put_digits.new.text c.put_word.new.text c.put_operands.new.text c.push.new.self front (operands what) c.in_ok-put_digits.ensures two c.in_ok-put_operands.ensures)
    c.push.ensures.ok
