-- One answer more behind answers that are alike.
use Rattle.std.proofs.Common.{◌≡◌, ℕ, ◌+◌, zero, suc, not, List, [], ◌∷◌, ◌++◌, length, map, refl, sym, ap, ◌∙◌, append-nil, length-append, subst, arith}
use Rattle.std.specs.Prelude.{replicate}
use Rattle.std.specs.List.{AllByRecursion}
use Rattle.std.proofs.lemmas.List.Elements.{filter-append}
use Rattle.usb_model.specs.declared.response.Response.{Response}
use Rattle.usb_model.specs.declared.response.Response.TheVariants.{Ack, Data, Nak}
use Rattle.usb_model.specs.declared.share.Alike.{Alike}
use Rattle.usb_model.specs.declared.share.Alike.TheVariants.{Nothing, Packets, Acks}
use Rattle.usb_model.specs.Alike.{AreAlike}
use Rattle.usb_model.specs.Endpoint.Packets.{is_nak, without_naks}

-- naks are left out of each part
pub naks_append : (xs ys : List Response) → without_naks (xs ++ ys) ≡ without_naks xs ++ without_naks ys
naks_append xs ys = filter-append (λ x. not (is_nak x)) xs ys

-- a nak changes nothing
pub nak_more : (alike : Alike) (xs : List Response) → AreAlike alike xs → AreAlike alike (xs ++ [])
nak_more alike xs all = subst (AreAlike alike) (sym (append-nil xs)) all

-- the first packet
pub one_packet : (xs : List Response) (b : List ℕ) → xs ≡ [] → AreAlike (Packets (length b) 1) (xs ++ Data b ∷ [])
one_packet xs b none = (b ∷ [], rw none refl, (refl, tt), refl)

-- packets with one more
data_more : (ps : List (List ℕ)) (b : List ℕ) → map Data ps ++ Data b ∷ [] ≡ map Data (ps ++ b ∷ [])
data_more [] b = refl
data_more (p ∷ ps) b = ap (λ l. Data p ∷ l) (data_more ps b)

full_more : (size : ℕ) (ps : List (List ℕ)) (b : List ℕ) → AllByRecursion (λ p. length p ≡ size) ps → length b ≡ size → AllByRecursion (λ p. length p ≡ size) (ps ++ b ∷ [])
full_more size [] b all full = (full, tt)
full_more size (p ∷ ps) b all full = (all.0, full_more size ps b all.1 full)

pub packet_more : (size count : ℕ) (xs : List Response) (b : List ℕ) → AreAlike (Packets size count) xs → length b ≡ size → AreAlike (Packets size (count + 1)) (xs ++ Data b ∷ [])
packet_more size count xs b all full =
    let ps : List (List ℕ) = all.0 in
    (ps ++ b ∷ [], ap (λ l. l ++ Data b ∷ []) all.1 ∙ data_more ps b, full_more size ps b all.2 full, omega (arith, all.3, length-append ps (b ∷ [])))

-- the first acknowledgement
pub one_ack : (xs : List Response) → xs ≡ [] → AreAlike (Acks 1) (xs ++ Ack ∷ [])
one_ack xs none = rw none refl

-- acknowledgements with one more
acks_more : (count : ℕ) → replicate count Ack ++ Ack ∷ [] ≡ replicate (count + 1) Ack
acks_more zero = refl
acks_more (suc count) = let more : suc count + 1 ≡ suc (count + 1) = omega arith in ap (λ l. Ack ∷ l) (acks_more count) ∙ ap (λ n. replicate n Ack) (sym more)

pub ack_more : (count : ℕ) (xs : List Response) → AreAlike (Acks count) xs → AreAlike (Acks (count + 1)) (xs ++ Ack ∷ [])
ack_more count xs all = ap (λ l. l ++ Ack ∷ []) all ∙ acks_more count
