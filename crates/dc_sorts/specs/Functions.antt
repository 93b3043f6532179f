-- The functions of the language as the code names them.
use Rattle.dc_tree.specs.Intrinsics as functions
use Rattle.dc_sorts.specs.declared.intrinsic.Intrinsic.{Intrinsic}

abbrev pub function_of : Intrinsic → functions.Intrinsic
function_of (Intrinsic.Operation op) = functions.operation op
function_of (Intrinsic.Chosen op) = functions.chosen op
function_of Intrinsic.Merge = functions.merge
function_of Intrinsic.Converted = functions.converted
function_of Intrinsic.Huge = functions.huge
function_of Intrinsic.BitSize = functions.bit_size
function_of Intrinsic.Kind = functions.kind
function_of Intrinsic.Size = functions.size
function_of Intrinsic.LowerBound = functions.lower_bound
function_of Intrinsic.UpperBound = functions.upper_bound
function_of Intrinsic.Total = functions.total
function_of Intrinsic.Count = functions.count
function_of Intrinsic.Any = functions.any
function_of Intrinsic.All = functions.all
