-- Rings whose TRBs name the buffers of their own transfers: what an endpoint's change leaves of them.
use Rattle.std.proofs.Common.{◌≡◌, ℕ, zero, suc, ◌+◌, ◌*◌, ◌<◌, refl, ap, sym, subst, subst₂, ◌∙◌, arith, List, [], ◌∷◌, ◌++◌, drop, Option, Some, None, ◌⊎◌, inl, inr}
use Rattle.std.specs.Prelude.{option_map, slice_get, slice_index_or, slice_set}
use Rattle.std.specs.Option.{option_and_then}
use Rattle.std.proofs.lemmas.Bool.{cases_eq}
use Rattle.std.proofs.lemmas.Option.{same_Some}
use Rattle.usb_model.specs.Setup.{endpoint_id}
use Rattle.usb_trb.specs.declared.kind.TrbKind.{TrbKind}
use Rattle.usb_tables.specs.declared.transfer.Transfer.{Transfer as InFlight}
use Rattle.usb_tables.specs.Tds.{tds_of}
use Rattle.usb_tables.specs.Trbs.{normals_of}
use Rattle.usb_rings.specs.Line.{normals}
use Rattle.usb_xhc.specs.Context.{Context}
use Rattle.usb_xhc.specs.Controller.{Controller, slot_changed}
use Rattle.usb_xhc.specs.Slots.{DeviceSlot, changed, context_by}
use Rattle.usb_tables.specs.ByEndpoint.{lane_at}
use Rattle.usb_tables.specs.TransfersInFlight.{keys_at, line_at, with_keys, with_line}
use Rattle.refine_rings.proofs.Ids.{id-lt}
use Rattle.refine_core.specs.State.{AllNameBuffers, NameBuffers, NamesBuffer, State}
use Rattle.refine_core.specs.Works.{context_in}
use Rattle.refine_core.proofs.Lines.{index_set_other}
use Rattle.refine_core.proofs.Ringed.{SameRings, changed_here, changed_other, ring_in, ringed, ringed_in}

-- what was set is found, also where there is no such place and nothing was set
pub set_here : {A : Type 0} (xs : List (List A)) (i : ℕ) (l : List A) → (slice_index_or xs i [] ≡ [] → l ≡ []) → slice_index_or (slice_set xs i l) i [] ≡ l
set_here [] i l none = sym (none refl)
set_here (x ∷ xs) zero l none = refl
set_here (x ∷ xs) (suc i) l none = set_here xs i l none

-- the keys that were put at an endpoint are there, where none come from none
pub keys_here : (lanes : List (List (Option ℕ))) (d e : ℕ) (ks : List (Option ℕ)) → (keys_at lanes d e ≡ [] → ks ≡ []) → keys_at (with_keys lanes d e ks) d e ≡ ks
keys_here lanes d e ks none = set_here lanes (lane_at d e) ks none

-- none are set among none, and none leave none
pub none_set : {A : Type 0} (xs : List A) (i : ℕ) (x : A) → xs ≡ [] → slice_set xs i x ≡ []
none_set xs i x is = ap (λ l. slice_set l i x) is

pub none_dropped : {A : Type 0} (n : ℕ) (xs : List A) → xs ≡ [] → drop n xs ≡ []
none_dropped zero xs is = is
none_dropped (suc n) xs is = ap (drop (suc n)) is

module _ {P : Type 0} where
  -- one of a line asks for the same as the one before it
  pub set_named : (size : ℕ) (keys : List (Option ℕ)) (xs : List (Option (InFlight P))) (kss : List (List TrbKind)) (i : ℕ) (t u : InFlight P) → AllNameBuffers size keys xs kss → slice_get xs i ≡ Some (Some t) → u.request ≡ t.request
      → AllNameBuffers size keys (slice_set xs i (Some u)) kss
  set_named size [] [] [] i t u all there same = tt
  set_named size (key ∷ keys) (x ∷ xs) (ks ∷ kss) (suc i) t u all there same = (all.0, set_named size keys xs kss i t u all.1 there same)
  set_named size (key ∷ keys) (x ∷ xs) (ks ∷ kss) zero t u all there same = (named key (subst (λ (o : Option (InFlight P)). NamesBuffer size key o ks) (same_Some x (Some t) there) all.0), all.1)
    where
      named : (o : Option ℕ) → NamesBuffer size o (Some t) ks → NamesBuffer size o (Some u) ks
      named (Some n) is = is ∙ ap (λ r. normals (normals_of n (tds_of size r))) (sym same)
      named None is = absurd is
  set_named size [] [] (ks ∷ kss) i t u all there same = absurd all
  set_named size [] (x ∷ xs) kss i t u all there same = absurd all
  set_named size (key ∷ keys) [] kss i t u all there same = absurd all
  set_named size (key ∷ keys) (x ∷ xs) [] i t u all there same = absurd all

  -- one becomes a blank
  pub blank_named : (size : ℕ) (keys : List (Option ℕ)) (xs : List (Option (InFlight P))) (kss : List (List TrbKind)) (i : ℕ) (by : List TrbKind) → AllNameBuffers size keys xs kss
      → AllNameBuffers size (slice_set keys i None) (slice_set xs i None) (slice_set kss i by)
  blank_named size [] [] [] i by all = tt
  blank_named size (key ∷ keys) (x ∷ xs) (ks ∷ kss) zero by all = (tt, all.1)
  blank_named size (key ∷ keys) (x ∷ xs) (ks ∷ kss) (suc i) by all = (all.0, blank_named size keys xs kss i by all.1)
  blank_named size [] [] (ks ∷ kss) i by all = absurd all
  blank_named size [] (x ∷ xs) kss i by all = absurd all
  blank_named size (key ∷ keys) [] kss i by all = absurd all
  blank_named size (key ∷ keys) (x ∷ xs) [] i by all = absurd all

  -- the first leave
  pub drop_named : (size n : ℕ) (keys : List (Option ℕ)) (xs : List (Option (InFlight P))) (kss : List (List TrbKind)) → AllNameBuffers size keys xs kss → AllNameBuffers size (drop n keys) (drop n xs) (drop n kss)
  drop_named size zero keys xs kss all = all
  drop_named size (suc n) [] [] [] all = tt
  drop_named size (suc n) (key ∷ keys) (x ∷ xs) (ks ∷ kss) all = drop_named size n keys xs kss all.1
  drop_named size (suc n) [] [] (ks ∷ kss) all = absurd all
  drop_named size (suc n) [] (x ∷ xs) kss all = absurd all
  drop_named size (suc n) (key ∷ keys) [] kss all = absurd all
  drop_named size (suc n) (key ∷ keys) (x ∷ xs) [] all = absurd all

  -- one joins
  pub join_named : (size : ℕ) (keys : List (Option ℕ)) (xs : List (Option (InFlight P))) (kss : List (List TrbKind)) (key : Option ℕ) (x : Option (InFlight P)) (ks : List TrbKind) → AllNameBuffers size keys xs kss → NamesBuffer size key x ks
      → AllNameBuffers size (keys ++ key ∷ []) (xs ++ x ∷ []) (kss ++ ks ∷ [])
  join_named size [] [] [] key x ks all is = (is, tt)
  join_named size (k ∷ keys) (y ∷ xs) (z ∷ kss) key x ks all is = (all.0, join_named size keys xs kss key x ks all.1 is)
  join_named size [] [] (z ∷ kss) key x ks all is = absurd all
  join_named size [] (y ∷ xs) kss key x ks all is = absurd all
  join_named size (k ∷ keys) [] kss key x ks all is = absurd all
  join_named size (k ∷ keys) (y ∷ xs) [] key x ks all is = absurd all

  -- where no transfer is, no item is
  pub none_named : (size : ℕ) (keys : List (Option ℕ)) (xs : List (Option (InFlight P))) (kss : List (List TrbKind)) → AllNameBuffers size keys xs kss → xs ≡ [] → kss ≡ []
  none_named size [] [] [] all none = refl
  none_named size (key ∷ keys) (x ∷ xs) (ks ∷ kss) all none = absurd cc
  none_named size [] [] (ks ∷ kss) all none = absurd all
  none_named size [] (x ∷ xs) kss all none = absurd all
  none_named size (key ∷ keys) [] kss all none = absurd all
  none_named size (key ∷ keys) (x ∷ xs) [] all none = absurd all

  -- keys and transfers of a ring, if there is one
  abbrev pub NamesIn : List (Option ℕ) → List (Option (InFlight P)) → Option (ℕ × List (List TrbKind)) → Type 0
  NamesIn keys xs None = Unit {0}
  NamesIn keys xs (Some r) = AllNameBuffers r.0 keys xs r.1

  -- those of an endpoint
  pub named_at : (s : State P) (d e : ℕ) → NameBuffers s → NamesIn (keys_at s.flights.keys d e) (line_at s.flights d e) (ringed_in s.controller d (endpoint_id e))
  named_at s d e all = by_slot (slice_get s.controller.slots d) refl
    where
      by_slot : (o : Option DeviceSlot) → slice_get s.controller.slots d ≡ o → NamesIn (keys_at s.flights.keys d e) (line_at s.flights d e) (option_map ringed (option_and_then (λ v. context_by v (endpoint_id e)) o))
      by_slot None none = tt
      by_slot (Some v) there = by_context (context_by v (endpoint_id e)) refl
        where
          by_context : (o : Option Context) → context_by v (endpoint_id e) ≡ o → NamesIn (keys_at s.flights.keys d e) (line_at s.flights d e) (option_map ringed o)
          by_context None none = tt
          by_context (Some x) is = all d e v x there is

  -- and so all
  pub buffers_by : (s : State P) → ((d e : ℕ) → NamesIn (keys_at s.flights.keys d e) (line_at s.flights d e) (ringed_in s.controller d (endpoint_id e))) → NameBuffers s
  buffers_by s each d e v x there is =
      subst (λ (o : Option Context). NamesIn (keys_at s.flights.keys d e) (line_at s.flights d e) (option_map ringed o))
      (ap (λ (o : Option DeviceSlot). option_and_then (λ w. context_by w (endpoint_id e)) o) there ∙ is) (each d e)

  -- lines and keys are as they were, and the rings
  pub buffers_same : (old new : State P) → new.flights.lines ≡ old.flights.lines → new.flights.keys ≡ old.flights.keys → SameRings old.controller new.controller → NameBuffers old → NameBuffers new
  buffers_same old new lines keys rings all = buffers_by new (λ d e.
      subst (λ (o : Option (ℕ × List (List TrbKind))). NamesIn (keys_at new.flights.keys d e) (line_at new.flights d e) o) (sym (rings d (endpoint_id e)))
      (subst₂ (λ (ks : List (List (Option ℕ))) (ls : List (List (Option (InFlight P)))). NamesIn (keys_at ks d e) (slice_index_or ls (lane_at d e) []) (ringed_in old.controller d (endpoint_id e))) (sym keys) (sym lines) (named_at old d e all)))

  -- those of one endpoint are others
  pub buffers_but : (old new : State P) (d e : ℕ) → ((lane : ℕ) → (lane ≡ lane_at d e → ⊥) → slice_index_or new.flights.lines lane [] ≡ slice_index_or old.flights.lines lane [])
      → ((lane : ℕ) → (lane ≡ lane_at d e → ⊥) → slice_index_or new.flights.keys lane [] ≡ slice_index_or old.flights.keys lane [])
      → ((dev id : ℕ) → ((dev ≡ d) × (id ≡ endpoint_id e) → ⊥) → ringed_in new.controller dev id ≡ ringed_in old.controller dev id)
      → NamesIn (keys_at new.flights.keys d e) (line_at new.flights d e) (ringed_in new.controller d (endpoint_id e)) → NameBuffers old → NameBuffers new
  buffers_but old new d e lines keys rings mine all = buffers_by new (λ dev ep. by_end dev ep (cases_eq dev d) (cases_eq (endpoint_id ep) (endpoint_id e)))
    where
      still : (dev ep : ℕ) → ((dev ≡ d) × (endpoint_id ep ≡ endpoint_id e) → ⊥) → NamesIn (keys_at new.flights.keys dev ep) (line_at new.flights dev ep) (ringed_in new.controller dev (endpoint_id ep))
      still dev ep other =
          let id : endpoint_id e < 32 = id-lt e in
          let beside : endpoint_id ep < 32 = id-lt ep in
          let apart : lane_at dev ep ≡ lane_at d e → ⊥ = λ same. other (omega (arith, same, id, beside), omega (arith, same, id, beside)) in
          subst (λ (o : Option (ℕ × List (List TrbKind))). NamesIn (keys_at new.flights.keys dev ep) (line_at new.flights dev ep) o) (sym (rings dev (endpoint_id ep) other))
          (subst₂ (λ (ks : List (Option ℕ)) (xs : List (Option (InFlight P))). NamesIn ks xs (ringed_in old.controller dev (endpoint_id ep))) (sym (keys (lane_at dev ep) apart)) (sym (lines (lane_at dev ep) apart)) (named_at old dev ep all))

      by_end : (dev ep : ℕ) → (dev ≡ d) ⊎ (dev ≡ d → ⊥) → (endpoint_id ep ≡ endpoint_id e) ⊎ (endpoint_id ep ≡ endpoint_id e → ⊥) → NamesIn (keys_at new.flights.keys dev ep) (line_at new.flights dev ep) (ringed_in new.controller dev (endpoint_id ep))
      by_end dev ep (inl device) (inl end) =
          subst₂ (λ (x id : ℕ). NamesIn (slice_index_or new.flights.keys (32 * x + id) []) (slice_index_or new.flights.lines (32 * x + id) []) (ringed_in new.controller x id)) (sym device) (sym end) mine
      by_end dev ep (inl device) (inr other) = still dev ep (λ both. other both.1)
      by_end dev ep (inr other) end = still dev ep (λ both. other both.0)

  -- one line is another, the rest is as it was
  pub buffers_line : (old new : State P) (d e : ℕ) (l : List (Option (InFlight P))) → new.flights.lines ≡ (with_line old.flights d e l).lines → line_at new.flights d e ≡ l → new.flights.keys ≡ old.flights.keys → SameRings old.controller new.controller
      → ((size : ℕ) (kss : List (List TrbKind)) → AllNameBuffers size (keys_at old.flights.keys d e) (line_at old.flights d e) kss → AllNameBuffers size (keys_at old.flights.keys d e) l kss) → NameBuffers old → NameBuffers new
  buffers_line old new d e l lines here keys rings put all = buffers_but old new d e
      (λ lane other. ap (λ (ls : List (List (Option (InFlight P)))). slice_index_or ls lane []) lines ∙ index_set_other old.flights.lines (lane_at d e) lane [] l other)
      (λ lane other. ap (λ (ls : List (List (Option ℕ))). slice_index_or ls lane []) keys)
      (λ dev id other. rings dev id)
      (subst (λ (o : Option (ℕ × List (List TrbKind))). NamesIn (keys_at new.flights.keys d e) (line_at new.flights d e) o) (sym (rings d (endpoint_id e)))
      (subst₂ (λ (ks : List (List (Option ℕ))) (xs : List (Option (InFlight P))). NamesIn (keys_at ks d e) xs (ringed_in old.controller d (endpoint_id e))) (sym keys) (sym here) (by_ring (ringed_in old.controller d (endpoint_id e)) (named_at old d e all)))) all
    where
      by_ring : (o : Option (ℕ × List (List TrbKind))) → NamesIn (keys_at old.flights.keys d e) (line_at old.flights d e) o → NamesIn (keys_at old.flights.keys d e) l o
      by_ring None is = tt
      by_ring (Some r) is = put r.0 r.1 is

  -- one line, its keys and its ring are others
  pub buffers_put : (old new : State P) (d e : ℕ) (l : List (Option (InFlight P))) (ks : List (Option ℕ)) (f : Context → Context) → new.flights.lines ≡ (with_line old.flights d e l).lines → line_at new.flights d e ≡ l
      → new.flights.keys ≡ with_keys old.flights.keys d e ks → keys_at new.flights.keys d e ≡ ks → new.controller ≡ slot_changed old.controller d (λ s. changed s (endpoint_id e) f)
      → ((x : Context) → context_in old.controller d e ≡ Some x → AllNameBuffers x.size (keys_at old.flights.keys d e) (line_at old.flights d e) x.ring.line.items → AllNameBuffers (f x).size ks l (f x).ring.line.items)
      → NameBuffers old → NameBuffers new
  buffers_put old new d e l ks f lines here keys with is_k put all = buffers_but old new d e
      (λ lane other. ap (λ (ls : List (List (Option (InFlight P)))). slice_index_or ls lane []) lines ∙ index_set_other old.flights.lines (lane_at d e) lane [] l other)
      (λ lane other. ap (λ (ls : List (List (Option ℕ))). slice_index_or ls lane []) keys ∙ index_set_other old.flights.keys (lane_at d e) lane [] ks other)
      (λ dev id other. ap (λ (k : Controller). ringed_in k dev id) is_k ∙ ap (option_map ringed) (changed_other old.controller d (endpoint_id e) f dev id other))
      (subst (λ (o : Option (ℕ × List (List TrbKind))). NamesIn (keys_at new.flights.keys d e) (line_at new.flights d e) o)
      (sym (ap (λ (k : Controller). ringed_in k d (endpoint_id e)) is_k ∙ ap (option_map ringed) (changed_here old.controller d (endpoint_id e) f)))
      (subst₂ (λ (keys : List (Option ℕ)) (xs : List (Option (InFlight P))). NamesIn keys xs (option_map ringed (option_map f (ring_in old.controller d (endpoint_id e))))) (sym with) (sym here)
      (by_ring (ring_in old.controller d (endpoint_id e)) refl (named_at old d e all)))) all
    where
      by_ring : (o : Option Context) → ring_in old.controller d (endpoint_id e) ≡ o → NamesIn (keys_at old.flights.keys d e) (line_at old.flights d e) (option_map ringed o) → NamesIn ks l (option_map ringed (option_map f o))
      by_ring None none is = tt
      by_ring (Some x) there is = put x there is
