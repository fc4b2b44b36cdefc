-- The endpoints of the devices below the number are new.
use Rattle.std.proofs.Common.{◌≡◌, ℕ, nat_lt, ◌&&◌}
use Rattle.std.specs.Prelude.{if◌then◌else◌}
use Rattle.usb_model.specs.Endpoint.{fresh}
use Rattle.reference.specs.Tables.{cell_at}
use Rattle.reference.specs.Renewed.{is_renewed}
use Rattle.reference.proofs.renewal.Table+Endpoint.renew.Given as goal

abbrev pub invariant-loop-number : goal.invariant-loop-number
invariant-loop-number l = (d e : ℕ) → cell_at (fresh l.fn.setup d e) l.self d e ≡ (if nat_lt d l.number && is_renewed l.fn.setup l.fn.claims l.fn.which d e then fresh l.fn.setup d e else cell_at (fresh l.fn.setup d e) l.initial.self d e)
