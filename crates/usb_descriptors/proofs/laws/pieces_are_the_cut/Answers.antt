use Rattle.usb_descriptors.proofs.IsCut.{is_cut, is_the_cut}
use Rattle.usb_descriptors.proofs.laws.pieces_are_the_cut.Goals as goal

pub returns-clause-cut : goal.returns-clause-cut
returns-clause-cut c = is_cut

pub returns-clause-unique : goal.returns-clause-unique
returns-clause-unique c = is_the_cut
