use Rattle.usb_rings.proofs.Chain.{link-stays-unchained}
use Rattle.usb_rings.proofs.event_laws.a_link_behind_commands_has_no_chain_bit.Goals as goal

pub returns : goal.returns
returns c = link-stays-unchained
