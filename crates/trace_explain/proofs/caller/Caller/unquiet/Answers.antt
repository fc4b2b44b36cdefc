-- Something is found, or all is quiet.
use Rattle.std.proofs.Common.{◌≡◌, Some, None, ap, sym, ◌∙◌}
use Rattle.std.specs.Option.{option_copied}
use Rattle.reference.specs.System.{is_chosen}
use Rattle.trace_explain.specs.Caller.{machine_of, setup_in}
use Rattle.trace_explain.proofs.Unquiet.{all_quiet, not_quiet, obstacle_told}
use Rattle.trace_explain.proofs.caller.Caller.unquiet.Goals as goal

pub returns-in-None : goal.returns-in-None
returns-in-None c = all_quiet (setup_in c.args.self.now) (machine_of c.args.self.now) c.args.dev (is_chosen c.args.only) c.requires (ap option_copied (sym c.in-None.is) ∙ c.first_unquiet.ensures)

pub returns-in-Some : goal.returns-in-Some
returns-in-Some c =
    let found = ap option_copied (sym c.in-Some.is) ∙ c.first_unquiet.ensures in (
      not_quiet (setup_in c.args.self.now) (machine_of c.args.self.now) c.args.dev (is_chosen c.args.only) c.requires c.in-Some.info.now found,
      obstacle_told (setup_in c.args.self.now) (machine_of c.args.self.now) c.args.dev (is_chosen c.args.only) c.requires c.in-Some.info.now c.busy_at.result found c.busy_at.ensures,
    )
