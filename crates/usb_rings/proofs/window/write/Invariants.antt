use Rattle.std.proofs.Common.{◌≡◌, ◌<◌, take, drop}
use Rattle.usb_rings.specs.Places.{after}
use Rattle.usb_rings.specs.Memory.{puts}
use Rattle.usb_rings.specs.Written.{AllKinds}
use Rattle.usb_rings.specs.Line.{places, normals}
use Rattle.usb_rings.proofs.window.write.Given as goal

abbrev pub invariant-loop-trb : goal.invariant-loop-trb
invariant-loop-trb l = record {
  place : l.at < 254;
  at : l.at ≡ after places l.place l.trb-index;
  rest : puts places l.segment l.at (normals (drop l.trb-index l.trbs)) ≡ puts places l.initial.segment l.place (normals l.trbs);
  ranges : AllKinds (normals (take l.trb-index l.trbs));
}
