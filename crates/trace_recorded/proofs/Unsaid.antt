-- What is missing isn't said.
use Rattle.std.proofs.Common.{◌≡◌, ℕ, Bool, true, false, List, [], ◌∷◌, ◌++◌, length, refl, ap, sym, ◌∙◌, ◌==◌, Option, Some, None}
use Rattle.std.specs.Prelude.{not, is_some}
use Rattle.std.specs.List.{AllByRecursion, flat_map}
use Rattle.trace_recorded.specs.declared.completed.DescriptorKind.TheVariants.{Device, Configuration, Text}
use Rattle.trace_recorded.specs.declared.completed.KnownDescriptor.{KnownDescriptor}
use Rattle.trace_recorded.specs.declared.controls.Controls.{Controls}
use Rattle.trace_recorded.specs.declared.described.DescribedDevice.{DescribedDevice}
use Rattle.trace_recorded.specs.declared.event.RecordedEvent.{RecordedEvent}
use Rattle.trace_recorded.specs.declared.identity.RecordedString.{RecordedString}
use Rattle.trace_recorded.specs.Controls.{controls_of}
use Rattle.trace_recorded.specs.Described.{completed, configuration_known, missing_by, missing_configurations, missing_device, missing_of, missing_string, place_of, read_of}
use Rattle.trace_recorded.specs.DescribedLaws.{IsUnsaid, EventsStay, NothingMissing, NothingSaidIsPutIn}
use Rattle.trace_recorded.specs.Identity.{has_string}

all_joined : {A : Type 0} (P : A → Type 0) (xs ys : List A) → AllByRecursion P xs → AllByRecursion P ys → AllByRecursion P (xs ++ ys)
all_joined P [] ys first second = second
all_joined P (x ∷ xs) ys first second = (first.0, all_joined P xs ys first.1 second)

all_of_each : {A B : Type 0} (P : B → Type 0) (f : A → List B) → ((x : A) → AllByRecursion P (f x)) → (xs : List A) → AllByRecursion P (flat_map f xs)
all_of_each P f each [] = tt
all_of_each P f each (x ∷ xs) = all_joined P (f x) (flat_map f xs) (each x) (all_of_each P f each xs)

of_device : (described : DescribedDevice) (controls : Controls) → AllByRecursion (IsUnsaid controls) (missing_device described controls.identity)
of_device described controls = by_test (is_some controls.identity.descriptor) refl
  where
    by_test : (b : Bool) → is_some controls.identity.descriptor ≡ b → AllByRecursion (IsUnsaid controls) (missing_device described controls.identity)
    by_test true is = rw is tt
    by_test false is = rw is (is, tt)

of_configurations : (described : DescribedDevice) (controls : Controls) → AllByRecursion (IsUnsaid controls) (missing_configurations described controls.configurations)
of_configurations described controls = by_test (length controls.configurations.found == 0) refl
  where
    by_test : (b : Bool) → (length controls.configurations.found == 0) ≡ b → AllByRecursion (IsUnsaid controls) (missing_configurations described controls.configurations)
    by_test true is = rw is (all_of_each (IsUnsaid controls) configuration_known (λ bytes. (ap not is, tt)) described.configurations)
    by_test false is = rw is tt

of_string : (controls : Controls) (s : RecordedString) → AllByRecursion (IsUnsaid controls) (missing_string controls.identity s)
of_string controls s = by_test (has_string s.index controls.identity) refl
  where
    by_test : (b : Bool) → has_string s.index controls.identity ≡ b → AllByRecursion (IsUnsaid controls) (missing_string controls.identity s)
    by_test true is = rw is tt
    by_test false is = rw is (is, tt)

pub nothing_said_is_put_in : NothingSaidIsPutIn
nothing_said_is_put_in described events =
    let controls = controls_of events in
    all_joined (IsUnsaid controls) _ _ (of_device described controls)
    (all_joined (IsUnsaid controls) _ _ (of_configurations described controls) (all_of_each (IsUnsaid controls) (missing_string controls.identity) (of_string controls) described.strings))

pub events_stay : EventsStay
events_stay described [] = ([], refl)
events_stay described (event ∷ events) = (flat_map (read_of (place_of event)) (missing_of described (event ∷ events)), refl)

pub nothing_missing : NothingMissing
nothing_missing described [] none = refl
nothing_missing described (event ∷ events) none = ap (λ missing. flat_map (read_of (place_of event)) missing ++ (event ∷ events)) none
