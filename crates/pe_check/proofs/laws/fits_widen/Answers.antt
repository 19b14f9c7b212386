use Rattle.pe_check.proofs.Widening.{fits_wider}
use Rattle.pe_check.proofs.laws.fits_widen.Goals as goal

pub returns : goal.returns
returns c = fits_wider
