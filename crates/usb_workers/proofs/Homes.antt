-- One thread more that came home.
use Rattle.std.proofs.Common.{◌≡◌, ◌<◌, ◌==◌, ℕ, suc, Bool, true, false, List, [], ◌∷◌, ◌++◌, length, map, get_or, Result, Ok, Err, IfOk, refl, sym, subst, ap, append_assoc, ◌∙◌, arith}
use Rattle.std.specs.Prelude.{All}
use Rattle.std.specs.List.{list_all}
use Rattle.std.proofs.lemmas.List.{map-append}
use Rattle.usb_model.specs.declared.reply.Returned.{Returned}
use Rattle.usb_model.specs.declared.verdict.Verdict.{Verdict}
use Rattle.usb_model.specs.Setup.{Setup}
use Rattle.usb_recorder.specs.declared.place.Place.{Place}
use Rattle.usb_library.specs.Calls.{Calling}
use Rattle.usb_workers.specs.Life.{AreAll, ControlsAll, Drives, Each, HandlesAll, LivedBy, Returns}

-- one more at the end of both
pub each_push : {A B : Type 0} (R : A → B → Type 0) (xs : List A) (ys : List B) (x : A) (y : B) → Each R xs ys → R x y → Each R (xs ++ x ∷ []) (ys ++ y ∷ [])
unfolding Each
each_push R [] [] x y e r = (r, tt)
each_push R (a ∷ xs) (b ∷ ys) x y e r = (e.0, each_push R xs ys x y e.1 r)
each_push R [] (b ∷ ys) x y e r = absurd e
each_push R (a ∷ xs) [] x y e r = absurd e

-- the same behind a map
pub each_push_mapped : {A B T : Type 0} (f : T → A) (R : A → B → Type 0) (ts : List T) (ys : List B) (t : T) (y : B) → Each R (map f ts) ys → R (f t) y → Each R (map f (ts ++ t ∷ [])) (ys ++ y ∷ [])
each_push_mapped f R ts ys t y e r = subst (λ l. Each R l (ys ++ y ∷ [])) (sym (map-append f ts (t ∷ []))) (each_push R (map f ts) ys (f t) y e r)

pub each_none : {A B : Type 0} (R : A → B → Type 0) (ys : List B) → ys ≡ [] → Each R [] ys
unfolding Each
each_none R ys e = subst (λ l. Each R [] l) (sym e) tt

-- one thread more stands behind the others, for the next that was to be started
pub one_behind : {T S : Type 0} (f : T → S) (old new : List T) (first seats : List S) (seat : S) (t : T) → new ≡ old ++ t ∷ [] → f t ≡ seat → map f old ≡ first ++ seats → map f new ≡ first ++ (seats ++ seat ∷ [])
one_behind f old new first seats seat t put its before =
    ap (map f) put ∙ (map-append f old (t ∷ []) ∙ (ap (λ l. l ++ f t ∷ []) before ∙ (ap (λ s. (first ++ seats) ++ s ∷ []) its ∙ append_assoc first seats (seat ∷ []))))

-- what a driver went out with, and what came home
module _ {T X S H : Type 0} (makes : T → Setup → Calling → Calling → X → Type 0) (setup : Setup) (driver : S → T) (first : S → Calling) (last : H → Calling) (leaves : H → X) where
  abbrev home : H → Returns X
  home h = record { caller = last h; left = leaves h }

  callers_home : (hs : List H) → map (λ (r : Returns X). r.caller) (map home hs) ≡ map last hs
  callers_home [] = refl
  callers_home (h ∷ hs) = ap (λ (l : List Calling). last h ∷ l) (callers_home hs)

  left_home : (hs : List H) → map (λ (r : Returns X). r.left) (map home hs) ≡ map leaves hs
  left_home [] = refl
  left_home (h ∷ hs) = ap (λ (l : List X). leaves h ∷ l) (left_home hs)

  drives_home : (ss : List S) (hs : List H) → ((k : ℕ) (s : S) → k < length ss → (first (get_or ss k s)).own ≡ []) → Each (λ s h. makes (driver s) setup (first s) (last h) (leaves h)) ss hs → Each (Drives makes setup) (map driver ss) (map home hs)
  unfolding Each
  drives_home [] [] none e = tt
  drives_home (s ∷ ss) (h ∷ hs) none e = ((first s, none 0 s (omega arith), e.0), drives_home ss hs (λ k x lt. none (suc k) x (omega (arith, lt))) e.1)
  drives_home [] (h ∷ hs) none e = absurd e
  drives_home (s ∷ ss) [] none e = absurd e

-- who made the places of a journal
pub lived_by : {T X S H V E : Type 0} (may : Calling → Returned → Verdict → Type 0) (makes : T → Setup → Calling → Calling → X → Type 0) (setup : Setup) (journal : V → List Place) (left : V → List X)
    (driver : S → T) (first : S → Calling) (last : H → Calling) (leaves : H → X) (seats : List S) (homes : List H) (drivers : List T) (controller events c e : Calling) → c.own ≡ [] → e.own ≡ []
    → ControlsAll setup c controller → HandlesAll setup may e events → map driver seats ≡ drivers → All (λ s. (first s).own ≡ []) seats
    → Each (λ s h. makes (driver s) setup (first s) (last h) (leaves h)) seats homes → (lacked : V → Bool) (r : Result V E) → IfOk r (λ v. AreAll (journal v) (controller ∷ events ∷ map last homes)) → IfOk r (λ v. left v ≡ map leaves homes)
    → IfOk r (λ v. lacked v ≡ false → list_all (λ c. c.missed == 0) (controller ∷ events ∷ map last homes) ≡ true) → IfOk r (λ v. LivedBy may makes setup (journal v) drivers (left v) (lacked v))
lived_by may makes setup journal left driver first last leaves seats homes drivers controller events c e none none' controls handles same fresh drives lacked (Ok v) all leave lacks = record {
  controller = controller;
  events = events;
  homes = map (home makes setup driver first last leaves) homes;
  controls = (c, none, controls);
  handles = (e, none', handles);
  drives = subst (λ (ds : List _). Each (Drives makes setup) ds (map (home makes setup driver first last leaves) homes)) same (drives_home makes setup driver first last leaves seats homes fresh drives);
  leaves = leave ∙ sym (left_home makes setup driver first last leaves homes);
  all = subst (λ (cs : List Calling). AreAll (journal v) (controller ∷ events ∷ cs)) (sym (callers_home makes setup driver first last leaves homes)) all;
  lacks = λ none. subst (λ (cs : List Calling). list_all (λ c. c.missed == 0) (controller ∷ events ∷ cs) ≡ true) (sym (callers_home makes setup driver first last leaves homes)) (lacks none);
}
lived_by may makes setup journal left driver first last leaves seats homes drivers controller events c e none none' controls handles same fresh drives lacked (Err x) all leave lacks = tt
