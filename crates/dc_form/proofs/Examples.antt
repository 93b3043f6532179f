-- Examples of the programs that are run today, and of some that just aren't.
use Rattle.std.proofs.Common.{◌≡◌, ℕ, Bool, true, false, List, [], ◌∷◌, Option, Some, None, refl}
use Rattle.std.specs.Prelude.{ℤ, pos, negsuc, codes}
use Rattle.dc_int.specs.declared.kind.Kind.{Kind}
use Rattle.dc_int.specs.Store.{Bounds}
use Rattle.dc_tree.specs.declared.stmt.Local.{Local}
use Rattle.dc_tree.specs.declared.symbols.Role as roles
use Rattle.dc_tree.specs.declared.symbols.Symbol.{Symbol}
use Rattle.dc_tree.specs.declared.token.Mark.{Mark}
use Rattle.dc_tree.specs.declared.token.Suffix.{Suffix}
use Rattle.dc_tree.specs.Blocks as blocks
use Rattle.dc_tree.specs.Blocks.{Line, Item, Items, Source, plain, none, and_then}
use Rattle.dc_form.specs.BuiltPrograms.{is_built, are_built_symbols, is_held}
use Rattle.dc_tree.specs.Statements.{Name, Ranging, Target, Statement, logical, program_line, end_line, end_do, concurrent, continue, act, assign, fill, print, read}
use Rattle.dc_tree.specs.Syntax.{Tree, number, name, refer, binary, no_args, arg}
use Rattle.dc_form.specs.Capped.{capped}

abbrev line : Statement → Line
line says = record { line = 1; says = says }

abbrev digits : List ℕ → Tree
digits text = number text Suffix.Absent

abbrev scalar : Name → Symbol
scalar text = record { scope = 0; name = text; role = roles.Role.Variable false Kind.K4 [] [] }

abbrev array : Name → Bounds → List ℤ → Symbol
array text bounds initial = record { scope = 0; name = text; role = roles.Role.Variable false Kind.K4 bounds initial }

abbrev constant : Name → Symbol
constant text = record { scope = 0; name = text; role = roles.Role.Constant false Kind.K4 (pos 5) }

-- a(0:4), i, n = 5
abbrev names : List Symbol
names = array (codes "a") ((pos 0, pos 4) ∷ []) [] ∷ scalar (codes "i") ∷ constant (codes "n") ∷ []

abbrev whole : Items → Source
whole body = record { head = line (program_line (codes "p")); front = []; body = body; contains = None; procedures = []; close = line (end_line None None) }

abbrev one : Item → Bool
one item = is_built names (whole (and_then item none))

abbrev said : Statement → Bool
said statement = one (plain (line statement))

-- ---- statements outside of loops

abbrev target : Name → Target
target text = record { name = text; subscripts = None }

example_output : said (act (print true (name (codes "a") ∷ binary Mark.Slash (name (codes "i")) (digits (codes "2")) ∷ []))) ≡ true
example_output = refl

example_list : said (act (fill (codes "a") (digits (codes "1") ∷ []))) ≡ true
example_list = refl

example_read : said (act (read false (target (codes "i") ∷ []))) ≡ false
example_read = refl

example_continue : said (act continue) ≡ false
example_continue = refl

-- ---- numbers

example_greatest : is_held (digits (codes "9223372036854775807")) ≡ true
example_greatest = refl

example_over : is_held (refer (codes "a") (arg false (digits (codes "9223372036854775808")) no_args)) ≡ false
example_over = refl

-- ---- loops

abbrev ranging : Name → Tree → Option Tree → Ranging
ranging text last step = record { name = text; first = digits (codes "1"); last = last; step = step }

abbrev fills : Items
fills = and_then (plain (line (act (assign (record { name = codes "a"; subscripts = Some (name (codes "i") ∷ []) }) (name (codes "i")))))) none

abbrev over : Statement → Items → Bool
over head body = one (blocks.loop (line head) body (line (end_do None)))

-- `do concurrent (i = 1:n)`
example_loop : over (concurrent None None (ranging (codes "i") (name (codes "n")) None ∷ []) None []) fills ≡ true
example_loop = refl

example_labelled : over (concurrent (Some (codes "l")) None (ranging (codes "i") (name (codes "n")) None ∷ []) None []) none ≡ true
example_labelled = refl

example_own_limit : over (concurrent None None (ranging (codes "i") (name (codes "i")) None ∷ []) None []) fills ≡ false
example_own_limit = refl

example_step : over (concurrent None None (ranging (codes "i") (name (codes "n")) (Some (digits (codes "2"))) ∷ []) None []) fills ≡ false
example_step = refl

example_mask : over (concurrent None None (ranging (codes "i") (name (codes "n")) None ∷ []) (Some (name (codes "n"))) []) fills ≡ false
example_mask = refl

example_type : over (concurrent None (Some logical) (ranging (codes "i") (name (codes "n")) None ∷ []) None []) fills ≡ false
example_type = refl

example_locality : over (concurrent None None (ranging (codes "i") (name (codes "n")) None ∷ []) None (Local.DefaultNone ∷ [])) fills ≡ false
example_locality = refl

example_two_indexes : over (concurrent None None (ranging (codes "i") (name (codes "n")) None ∷ ranging (codes "i") (name (codes "n")) None ∷ []) None []) fills ≡ false
example_two_indexes = refl

example_array_index : over (concurrent None None (ranging (codes "a") (name (codes "n")) None ∷ []) None []) none ≡ false
example_array_index = refl

example_constant_index : over (concurrent None None (ranging (codes "n") (digits (codes "3")) None ∷ []) None []) none ≡ false
example_constant_index = refl

example_output_inside : over (concurrent None None (ranging (codes "i") (name (codes "n")) None ∷ []) None []) (and_then (plain (line (act (print false [])))) none) ≡ false
example_output_inside = refl

-- ---- declared names

example_given : are_built_symbols (array (codes "a") ((pos 0, pos 1) ∷ []) (pos 7 ∷ pos 8 ∷ []) ∷ []) ≡ true
example_given = refl

example_given_one : are_built_symbols (array (codes "a") ((pos 0, pos 1) ∷ []) (pos 7 ∷ []) ∷ []) ≡ false
example_given_one = refl

-- 2048 times 2048, and one element more
example_full : are_built_symbols (array (codes "a") ((negsuc 1023, pos 1023) ∷ (pos 1, pos 2048) ∷ []) [] ∷ []) ≡ true
example_full = refl

example_over_full : are_built_symbols (scalar (codes "i") ∷ array (codes "a") ((negsuc 1023, pos 1023) ∷ (pos 1, pos 2048) ∷ []) [] ∷ []) ≡ false
example_over_full = refl

-- an array of no elements, whatever its other dimension is
example_empty : are_built_symbols (array (codes "a") ((pos 1, pos 9223372036854775807) ∷ (pos 1, pos 0) ∷ []) [] ∷ []) ≡ true
example_empty = refl

example_inner_name : are_built_symbols (record { scope = 1; name = codes "i"; role = roles.Role.Variable false Kind.K4 [] [] } ∷ []) ≡ false
example_inner_name = refl

example_function : are_built_symbols (record { scope = 0; name = codes "f"; role = roles.Role.Function 1 } ∷ []) ≡ false
example_function = refl

-- ---- capping

example_capped : capped 9223372036854775807 ≡ 9223372036854775807
example_capped = refl

example_at_cap : capped 9223372036854775809 ≡ 9223372036854775808
example_at_cap = refl
