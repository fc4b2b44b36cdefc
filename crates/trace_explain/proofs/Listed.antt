-- A device's endpoints, listed.
use Rattle.std.proofs.Common.{◌≡◌, ℕ, ◌+◌, ◌≤◌, ◌<◌, nat_lt, Bool, true, false, List, [], ◌∷◌, ◌++◌, ◌-◌, length, map, take, drop, get_or, refl, sym, ap, ◌∙◌, arith}
use Rattle.std.specs.Prelude.{slice_set, if◌then◌else◌}
use Rattle.std.specs.List.{fold}
use Rattle.std.proofs.lemmas.Bool.{ltb-false, ltb-true}
use Rattle.std.proofs.lemmas.List.{append_assoc, drop_more, append-nil, length-drop, length-set, length-take-le, take-append-le, take_all, take_more, take_more_set}
use Rattle.std.proofs.lemmas.List.Sums.{fold-append}
use Rattle.usb_model.specs.declared.setup.EndpointInfo.{EndpointInfo}
use Rattle.trace_explain.specs.declared.endpoints.EndpointList.{EndpointList}
use Rattle.usb_model.specs.Text.{hex_byte}
use Rattle.trace_explain.specs.Text.{between, row_text}
use Rattle.trace_explain.specs.Endpoints.{addresses_in, listed, most_named, with_endpoint}

-- a list with the endpoints behind it
addresses_behind : (infos : List EndpointInfo) (list : EndpointList) → length list.addresses ≡ most_named → list.count ≤ most_named
    → addresses_in (fold with_endpoint list infos) ≡ take most_named (addresses_in list ++ map (λ (info : EndpointInfo). info.address) infos)
addresses_behind [] list whole few =
    sym (ap (take most_named) (append-nil (addresses_in list)) ∙ take_all most_named (addresses_in list) (omega (arith, length-take-le list.count list.addresses (omega arith))))
addresses_behind (info ∷ infos) list whole few = by_room (λ l. addresses_behind infos l) (nat_lt list.count most_named) refl
  where
    rest : List ℕ
    rest = map (λ (x : EndpointInfo). x.address) infos

    more : EndpointList
    more = record { addresses = slice_set list.addresses list.count info.address; count = list.count + 1 }

    by_room : ((l : EndpointList) → length l.addresses ≡ most_named → l.count ≤ most_named → addresses_in (fold with_endpoint l infos) ≡ take most_named (addresses_in l ++ rest))
        → (b : Bool) → nat_lt list.count most_named ≡ b
        → addresses_in (fold with_endpoint (if b then more else list) infos) ≡ take most_named (addresses_in list ++ info.address ∷ rest)
    by_room behind true room =
        let low : list.count < most_named = ltb-true list.count most_named room in
        behind more (length-set list.addresses list.count info.address ∙ whole) (omega arith)
        ∙ ap (λ xs. take most_named (xs ++ rest)) (take_more_set list.addresses list.count info.address (omega arith))
        ∙ ap (take most_named) (append_assoc (addresses_in list) (info.address ∷ []) rest)
    by_room behind false full =
        let high : most_named ≤ list.count = ltb-false list.count most_named full in
        let long : most_named ≤ length (addresses_in list) = omega (arith, length-take-le list.count list.addresses (omega arith)) in
        behind list whole few
        ∙ take-append-le most_named (addresses_in list) rest long
        ∙ sym (take-append-le most_named (addresses_in list) (info.address ∷ rest) long)

-- the addresses of those of a configuration, of the first of them where there are too many
pub addresses_listed : (infos : List EndpointInfo) → addresses_in (listed infos) ≡ take most_named (map (λ (info : EndpointInfo). info.address) infos)
addresses_listed infos = addresses_behind infos _ refl (omega arith)

-- one more is listed
pub one_more : (infos : List EndpointInfo) (i : ℕ) (info : EndpointInfo) → i < length infos → info ≡ get_or infos i info
    → with_endpoint (listed (take i infos)) info ≡ listed (take (i + 1) infos)
one_more infos i info low is =
    sym (fold-append with_endpoint _ (take i infos) (info ∷ []))
    ∙ ap (fold with_endpoint _) (ap (λ x. take i infos ++ x ∷ []) is ∙ sym (take_more infos i info low))

-- one more address of a row is written, with what stands behind it
pub row_more : (eps : List ℕ) (i ep more : ℕ) (before behind : List ℕ) → i < length eps → ep ≡ get_or eps i ep → more ≡ length eps - (i + 1) → behind ≡ between more
    → before ++ row_text (drop i eps) ≡ row_text eps → (before ++ (hex_byte ep ++ behind)) ++ row_text (drop (i + 1) eps) ≡ row_text eps
row_more eps i ep more before behind low here left is row =
    let rest : List ℕ = drop (i + 1) eps in
    let between_is : behind ≡ between (length rest) = is ∙ ap between (left ∙ sym (length-drop (i + 1) eps)) in
    let at_row : row_text (drop i eps) ≡ hex_byte ep ++ (between (length rest) ++ row_text rest) = ap row_text (drop_more eps i ep low ∙ ap (λ x. x ∷ rest) (sym here)) in
    append_assoc before (hex_byte ep ++ behind) (row_text rest)
    ∙ ap (λ t. before ++ t) (append_assoc (hex_byte ep) behind (row_text rest) ∙ ap (λ t. hex_byte ep ++ (t ++ row_text rest)) between_is ∙ sym at_row)
    ∙ row
