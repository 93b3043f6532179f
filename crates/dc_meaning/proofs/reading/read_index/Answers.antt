use Rattle.std.proofs.Common.{◌≡◌, [], sym, ap, rules}
use Rattle.dc_int.specs.Sorts.{whole}
use Rattle.dc_meaning.specs.Acts.{required}
use Rattle.dc_meaning.specs.Places.{value_at_entity}
use Rattle.dc_meaning.specs.WalkScope.{own_of}
use Rattle.dc_tree.specs.Entities.{slots}
use Rattle.dc_meaning.proofs.Referring.{index-walks, first_value_of, none-below}
use Rattle.dc_meaning.proofs.Walking.{stays-as}
use Rattle.dc_meaning.proofs.reading.read_index.Goals as goal

pub returns-in-empty : goal.returns-in-empty
returns-in-empty c = λ view.
    stays-as (λ call. ap (value_at_entity c.args.line (slots 0 (whole c.args.kind) [])) (none-below c.args.subscripts.now c.in-empty.len_below))
    (index-walks c.args.line c.args.kind c.args.walk.now.values.now
    (stays-as (λ call. ap (required c.args.line) (sym given)) (c.required.ensures (own_of c.args.walk.now) view)))
  where
    given : c.copied.result ≡ first_value_of c.args.walk.now.values.now
    given = search (rules, first_value_of)
