use Rattle.usb_living.proofs.Offered.{feeding_goes_on, fits_the_room, takes_what_it_is_told}
use Rattle.usb_living.proofs.laws.offered.Goals as goal

pub returns-clause-taken : goal.returns-clause-taken
returns-clause-taken g c = takes_what_it_is_told

pub returns-clause-room : goal.returns-clause-room
returns-clause-room g c = fits_the_room

pub returns-clause-fed : goal.returns-clause-fed
returns-clause-fed g c = feeding_goes_on
