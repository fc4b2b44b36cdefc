use Rattle.refine_core.proofs.Deliveries.{is_live, pauses_by, pauses_event}
use Rattle.usb_core.proofs.Carried.{flights_follow}
use Rattle.refine_core.proofs.Payloads.{follows_pause}
use Rattle.usb_core.proofs.Readings.{stands_at}
use Rattle.usb_model.specs.Completion.{stopped}
use Rattle.std.proofs.Common.{refl}
use Rattle.usb_core.proofs.parts.Parts.transfer_stands.Goals as goal

pub pause-requires : goal.pause-requires
pause-requires g c =
    let told = c.requires.told in
    is_live c.args.self.now _ c.self.view_is c.args.told.at.name c.args.told.at.dev c.args.told.at.ep c.args.item told.0 told.1 _ _ _ (stands_at told.0 c.args.self.now told.1 c.args.told c.args.item c.args.actual told.2 c.requires.stands)

pub returns-clause-done : goal.returns-clause-done
returns-clause-done g c = λ setup core told.
    pauses_event setup c.args.self.now _ core c.args.told.at.name c.args.told.at.dev c.args.told.at.ep c.args.item c.args.told.n c.args.actual stopped (stands_at setup c.args.self.now core c.args.told c.args.item c.args.actual told c.requires.stands) refl
    (pauses_by c.args.self.now _ c.self.view_is c.args.told.at.name c.args.told.at.dev c.args.told.at.ep c.args.item c.args.actual c.pause.new.self c.pause.ensures)

pub returns-clause-carries : goal.returns-clause-carries
returns-clause-carries g c =
    let told = c.requires.told in
    flights_follow c.args.self.now _ c.self.view_is c.pause.new.self
    (follows_pause c.self.inside.flights c.pause.new.self c.args.told.at.dev c.args.told.at.ep c.args.item c.args.actual
    (is_live c.args.self.now _ c.self.view_is c.args.told.at.name c.args.told.at.dev c.args.told.at.ep c.args.item told.0 told.1 _ _ _ (stands_at told.0 c.args.self.now told.1 c.args.told c.args.item c.args.actual told.2 c.requires.stands)) c.pause.ensures)
