use Rattle.dc_listing.proofs.WholeTells.{listing-tells}
use Rattle.dc_listing.proofs.law.a_listing_determines_its_code.Goals as goal

pub returns : goal.returns
returns c = λ first second same. listing-tells first second same
