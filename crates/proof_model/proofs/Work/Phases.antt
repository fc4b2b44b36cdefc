-- Phases: what the phase of an endpoint says of its state, its errand, and what is told of it.
use Rattle.std.proofs.Common.{◌≡◌, ℕ, true, false, ◌⊎◌, inl, inr, List, [], ◌∷◌, Option, Some, None, refl}
use Rattle.usb_model.specs.declared.errand.Errand.{Errand}
use Rattle.usb_model.specs.declared.errand.Errand.TheVariants as errand
use Rattle.usb_model.specs.declared.endpoint.EndpointState.{EndpointState}
use Rattle.usb_model.specs.declared.endpoint.EndpointState.TheVariants.{Halted, Running}
use Rattle.usb_model.specs.declared.news.Event.{Event}
use Rattle.usb_model.specs.declared.news.Event.TheVariants.{Finished, Paused, Settled}
use Rattle.usb_model.specs.Coherence.{AllGo, IsPhase, ended, move_ran, move_waits, reset_ran, reset_waits, runs, stop_failed, stop_ran, stop_ran_paused, stop_waits, stop_waits_halted}
use Rattle.usb_model.specs.Endpoint.Status.{halts}

-- without an errand nothing is ordered, and nothing is told behind the served
pub free : (s : EndpointState) (er : Option Errand) (os : List Errand) (es tail : List Event) → er ≡ None → IsPhase s er os es tail → (os ≡ []) × (tail ≡ [])
free s er os es tail e (runs g) = (refl, refl)
free s er os es tail e (ended g) = (refl, refl)
free s er os es tail e _ = absurd cc

-- a running endpoint is told nothing but ends
pub running_tail : (s : EndpointState) (er : Option Errand) (os : List Errand) (es tail : List Event) → s ≡ Running → IsPhase s er os es tail → tail ≡ []
running_tail s er os es tail e (runs g) = refl
running_tail s er os es tail e (stop_waits g) = refl
running_tail s er os es tail e _ = absurd cc

-- behind the ends of the served no other end is told
pub no_end : (s : EndpointState) (er : Option Errand) (os : List Errand) (fs tail : List Event) (n code : ℕ) (ns : List Event) → IsPhase s er os fs tail → tail ≡ Finished n code ∷ ns → ⊥
no_end s er os fs tail n code ns (runs g) told = cc
no_end s er os fs tail n code ns (ended g) told = cc
no_end s er os fs tail n code ns (stop_waits g) told = cc
no_end s er os fs tail n code ns (stop_waits_halted g) told = cc
no_end s er os fs tail n code ns (stop_ran g) told = cc
no_end s er os fs tail n code ns (stop_ran_paused g) told = cc
no_end s er os fs tail n code ns (stop_failed g) told = cc
no_end s er os fs tail n code ns reset_waits told = cc
no_end s er os fs tail n code ns reset_ran told = cc
no_end s er os fs tail n code ns move_waits told = cc
no_end s er os fs tail n code ns move_ran told = cc

-- of the errands Stop alone fails
pub no_false : (s : EndpointState) (er : Option Errand) (os : List Errand) (fs tail : List Event) (o : Errand) (ns : List Event) → IsPhase s er os fs tail → tail ≡ Settled o false ∷ ns → o ≡ errand.Stop
no_false s er os fs tail o ns (stop_failed g) told = cc
no_false s er os fs tail o ns _ told = absurd cc

-- where an end is told there is no errand, or Stop
pub stop_or_none : (s : EndpointState) (er : Option Errand) (os : List Errand) (fs tail : List Event) (n code : ℕ) (es : List Event) → IsPhase s er os fs tail → fs ≡ Finished n code ∷ es → (er ≡ None) ⊎ (er ≡ Some errand.Stop)
stop_or_none s er os fs tail n code es (runs g) is = inl refl
stop_or_none s er os fs tail n code es (ended g) is = inl refl
stop_or_none s er os fs tail n code es (stop_waits g) is = inr refl
stop_or_none s er os fs tail n code es (stop_waits_halted g) is = inr refl
stop_or_none s er os fs tail n code es (stop_ran g) is = inr refl
stop_or_none s er os fs tail n code es (stop_ran_paused g) is = inr refl
stop_or_none s er os fs tail n code es (stop_failed g) is = inr refl
stop_or_none s er os fs tail n code es reset_waits is = absurd cc
stop_or_none s er os fs tail n code es reset_ran is = absurd cc
stop_or_none s er os fs tail n code es move_waits is = absurd cc
stop_or_none s er os fs tail n code es move_ran is = absurd cc

-- ends of which none stops the endpoint do not begin with one that does
pub go_not : (es rest : List Event) (n code : ℕ) → es ≡ Finished n code ∷ rest → halts code ≡ true → AllGo es → ⊥
go_not [] rest n code e stop g = cc
go_not (Finished m k ∷ es) rest n code e stop g = let same : k ≡ code = cc in cc (g.0, stop, same)
go_not (Paused m ∷ es) rest n code e stop g = g
go_not (Settled er ok ∷ es) rest n code e stop g = g

-- where an end that halts is told, the endpoint is halted
pub halted_if : (s : EndpointState) (er : Option Errand) (os : List Errand) (es tail rest : List Event) (n code : ℕ) → es ≡ Finished n code ∷ rest → halts code ≡ true → IsPhase s er os es tail → s ≡ Halted
halted_if s er os es tail rest n code e stop (runs g) = absurd (go_not es rest n code e stop g)
halted_if s er os es tail rest n code e stop (ended g) = refl
halted_if s er os es tail rest n code e stop (stop_waits g) = absurd (go_not es rest n code e stop g)
halted_if s er os es tail rest n code e stop (stop_waits_halted g) = refl
halted_if s er os es tail rest n code e stop (stop_ran g) = absurd (go_not es rest n code e stop g)
halted_if s er os es tail rest n code e stop (stop_ran_paused g) = absurd (go_not es rest n code e stop g)
halted_if s er os es tail rest n code e stop (stop_failed g) = refl
halted_if s er os es tail rest n code e stop reset_waits = refl
halted_if s er os es tail rest n code e stop reset_ran = absurd cc
halted_if s er os es tail rest n code e stop move_waits = absurd cc
halted_if s er os es tail rest n code e stop move_ran = absurd cc
