-- Numbers, by their digits and the kind that stands behind them. After ISO/IEC 1539-1:2023, clause 7.4.3.1.
use Rattle.std.specs.Prelude.{ℕ, true, false, List, Option, Some, None, option_map, is_some, nat_lt, if◌then◌else◌, pos}
use Rattle.dc_int.specs.declared.kind.Kind.{Kind}
use Rattle.dc_tree.specs.declared.token.Suffix.{Suffix}
use Rattle.dc_tree.specs.Literals.{number_of, kind_numbered}
use Rattle.dc_tree.specs.Entities.{Scope, entity}
use Rattle.dc_tree.specs.Typing.{literal_value, constant_of_entity}
use Rattle.dc_sorts.specs.declared.form.Form.{Form}
use Rattle.dc_sorts.specs.declared.known.Known.{Known}
use Rattle.dc_sorts.specs.declared.meaning.Meaning.{Meaning}
use Rattle.dc_sorts.specs.Meanings.{form_of_meaning, constant_of_meaning}

-- The number, or 2 to the 63rd where it is greater, and so over every kind.
abbrev pub capped : ℕ → ℕ
capped n = if nat_lt n 9223372036854775808 then n else 9223372036854775808

-- The kind that a suffix names, where it names one.
abbrev pub suffix_kind : Scope → Suffix → Option Kind
suffix_kind scope Suffix.Absent = Some Kind.K4
suffix_kind scope (Suffix.Digits digits) = Some (kind_numbered (pos (number_of digits)))
suffix_kind scope (Suffix.Named text) = option_map kind_numbered (constant_of_entity (entity scope text))

-- What is known of a number, by its kind.
abbrev pub number_known : List ℕ → Option Kind → Known
number_known digits (Some kind) = record { form = Form.Whole kind; constant = true; value = literal_value kind (number_of digits) }
number_known digits None = record { form = Form.Whole Kind.K4; constant = false; value = None }

-- What is known of a name, by what it means.
abbrev pub name_known : Meaning → Known
name_known meaning = record { form = form_of_meaning meaning; constant = is_some (constant_of_meaning meaning); value = constant_of_meaning meaning }
