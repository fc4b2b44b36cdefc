use Rattle.refine_world.proofs.Serves.{serve_shows}
use Rattle.refine_world.proofs.PauseEvents.{packet_told}
use Rattle.refine_world.proofs.laws.served.Goals as goal

pub returns : goal.returns
returns c = λ size inward gone e os ns b sent told some c w bodies kinds s. serve_shows size gone e os ns b sent told c s w.behind (packet_told size inward e b some w.opens w.stalls s.device_halted bodies kinds)
