use Rattle.std.proofs.Common.{◌≡◌, ap, ◌∙◌}
use Rattle.dc_tree.specs.declared.symbols.Role as roles
use Rattle.dc_tree.specs.Statements.{Name, declared_of}
use Rattle.dc_tree.specs.Symbols.{is_sound}
use Rattle.dc_declare.specs.declared.entry.Entry.{Entry}
use Rattle.dc_declare.specs.Entities.{entry_of, role_of}
use Rattle.dc_declare.specs.Tables.{declaring, symbol_with}
use Rattle.dc_declare.proofs.Sound.{made-sound}
use Rattle.dc_declare.proofs.entity.declare_entry.Goals as goal

pub declare-requires : goal.declare-requires
declare-requires c =
    let heading = c.args.heading.now in
    let given = c.args.given.now in
    let declared = declared_of c.args.entity.now in
    let total = c.total_after-total.result in
    let role : c.in_ok-role.role ≡ role_of heading.unit total given declared.initial (entry_of heading (declaring c.args.scan.now.symbols heading.unit) given declared) =
    c.in_ok-role.ensures ∙ ap (λ (entry : Entry). role_of heading.unit total given declared.initial entry) c.requires in
    ap (λ (r : roles.Role). is_sound (symbol_with heading.unit c.in_ok-name.name r)) role
    ∙ ap
    (λ (n : Name). is_sound
    (symbol_with heading.unit n (role_of heading.unit total given declared.initial (entry_of heading (declaring c.args.scan.now.symbols heading.unit) given declared))))
    c.in_ok-name.ensures
    ∙ made-sound heading (declaring c.args.scan.now.symbols heading.unit) given declared total
