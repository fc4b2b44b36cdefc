-- The endpoints below the byte are new.
use Rattle.std.proofs.Common.{◌≡◌, ℕ, ◌==◌, nat_lt, ◌&&◌}
use Rattle.std.specs.Prelude.{if◌then◌else◌}
use Rattle.usb_model.specs.Endpoint.{fresh}
use Rattle.reference.specs.Tables.{cell_at}
use Rattle.reference.specs.Renewed.{is_renewed}
use Rattle.reference.proofs.renewal.Table+Endpoint.renew_device.Given as goal

abbrev pub invariant-loop-byte : goal.invariant-loop-byte
invariant-loop-byte l = (d e : ℕ) → cell_at (fresh l.fn.setup d e) l.self d e ≡ (if ((l.fn.dev == d) && nat_lt e l.byte) && is_renewed l.fn.setup l.fn.claims l.fn.which d e then fresh l.fn.setup d e else cell_at (fresh l.fn.setup d e) l.initial.self d e)
