-- Those of lower ids are rewound.
use Rattle.std.proofs.Common.{◌≡◌, ◌<◌}
use Rattle.usb_device.specs.Pipe.{IsLawful, rewound}
use Rattle.usb_xhc.proofs.Renewed.{changed_to}
use Rattle.usb_xhc.proofs.renewal.rewind.Given as goal

abbrev pub invariant-loop-id : goal.invariant-loop-id
invariant-loop-id g l = (g.D.Device.pipes l.device ≡ changed_to rewound l.id (g.D.Device.pipes l.fn.device)) × (0 < l.id → IsLawful (g.D.Device.pipes l.device))
