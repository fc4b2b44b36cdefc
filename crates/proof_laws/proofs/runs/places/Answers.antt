use Rattle.proof_model.proofs.Places.Runs.{keeps_places}
use Rattle.proof_laws.proofs.runs.places.Goals as goal

pub returns : goal.returns
returns c = keeps_places
