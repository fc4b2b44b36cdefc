-- What the closure asks of its types, once as written and once as called, is what the function is promised of them.
use denote.Param.Send.{sendable}
use Rattle.usb_workers.proofs.threads.run_all.Goals as goal

pub scoped-requires : goal.scoped-requires
scoped-requires g c =
    let b = c.type_bounds in
    record {
      at = λ a. (
        (
          search sendable depth 12,
          search sendable depth 12,
          search sendable depth 12,
          search sendable depth 12,
          search sendable depth 12,
          search sendable depth 12,
          search sendable depth 12,
          search sendable depth 12,
          search sendable depth 12,
          search sendable depth 12,
          search sendable depth 12,
        ),
        (
          search sendable depth 12,
          search sendable depth 12,
          search sendable depth 12,
          search sendable depth 12,
          search sendable depth 12,
          search sendable depth 12,
          search sendable depth 12,
          search sendable depth 12,
          search sendable depth 12,
          search sendable depth 12,
          search sendable depth 12,
        ),
      );
    }
