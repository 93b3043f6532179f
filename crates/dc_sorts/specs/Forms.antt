-- Sorts as the code keeps them.
use Rattle.std.specs.Prelude.{Bool, true, false}
use Rattle.dc_int.specs.declared.kind.Kind.{Kind}
use Rattle.dc_int.specs.Sorts.{Sort, whole, logical}
use Rattle.dc_sorts.specs.declared.form.Form.{Form}

abbrev pub sort_of_form : Form → Sort
sort_of_form (Form.Whole kind) = whole kind
sort_of_form Form.Logical = logical

abbrev pub form_of_sort : Sort → Form
form_of_sort (whole kind) = Form.Whole kind
form_of_sort logical = Form.Logical

abbrev pub form_with : Bool → Kind → Form
form_with true kind = Form.Logical
form_with false kind = Form.Whole kind
