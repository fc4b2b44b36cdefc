use Rattle.refine_world.proofs.Orderly.Serves.{answer_goes, orderly_serve}
use Rattle.refine_world.proofs.Orderly.Works.{orderly_ask, orderly_cleared, orderly_command, orderly_deliver, orderly_fresh, orderly_submit}
use Rattle.refine_world.proofs.laws.ordered.Goals as goal

pub returns : goal.returns
returns c = λ size. record {
  anew = λ setup d e. orderly_fresh size setup d e;
  served = λ inward gone e os ns some c w bodies kinds. orderly_serve size gone e os ns c w (λ x first. answer_goes size inward e x some w first (bodies x first) kinds);
  commanded = λ ep e o os ns c w. orderly_command size ep e o os ns c w;
  delivered = λ ep gone e os event ns c w. orderly_deliver size ep gone e os event ns c w;
  asked = λ e n ask w. orderly_ask size e n ask w;
  submitted = λ e n request round w. orderly_submit size e n request round w;
  cleared = λ e w. orderly_cleared size e w;
}
