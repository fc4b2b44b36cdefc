-- A device's endpoints, as they are made one after another.
use Rattle.std.proofs.Common.{◌≡◌, ℕ, zero, suc, ◌+◌, ◌<◌, List, [], ◌∷◌, ◌++◌, length, drop, get_or, map, true, sym, ap, ◌∙◌, refl, arith, append_assoc, length-append}
use Rattle.std.specs.List.{range_with_len}
use Rattle.std.proofs.lemmas.List.{get_or-drop}
use Rattle.std.proofs.lemmas.Option.{unwrap_or-slice_get}
use Rattle.std.proofs.lemmas.List.FromFn.{get_or-map-range_with_len, length-map-range_with_len, map-range_with_len_more}
use Rattle.usb_model.specs.declared.response.Response.{Response}
use Rattle.usb_model.specs.declared.setup.Configuration.{Configuration}
use Rattle.usb_device.specs.Pipe.{Pipe}
use Rattle.usb_device.specs.Scripts.{are_scripts, pipe_by, pipe_of, pipes_of, room_of, rooms_of, script_by, size_by}
use Rattle.usb_device.specs.Taken.{Taken}

-- endpoints made of the rooms `done`; the rooms `left` and the scripts `rest` come next
pub record IsFilling (config : Configuration) (scripts : List (List Response)) (pipes : List Pipe) (done left : List Taken) (rest : List (List Response)) : Type 0 where
  pub made : pipes ≡ map (pipe_by config scripts) (range_with_len 0 (length done))
  pub rooms : done ++ left ≡ rooms_of config scripts
  pub behind : rest ≡ drop (length done) scripts
  pub fit : are_scripts config scripts ≡ true

-- there are 32 rooms
pub few-done : (config : Configuration) (scripts : List (List Response)) (pipes : List Pipe) (done left : List Taken) (rest : List (List Response))
    → IsFilling config scripts pipes done left rest → length done + length left ≡ 32
unfolding rooms_of
few-done config scripts pipes done left rest h =
    sym (length-append done left) ∙ ap (λ (ts : List Taken). length ts) h.rooms ∙ length-map-range_with_len (room_of config scripts) 0 32

-- what stands behind a list is read behind its length
get_or-behind : (done left : List Taken) (x : Taken) → get_or (done ++ x ∷ left) (length done) x ≡ x
get_or-behind [] left x = refl
get_or-behind (y ∷ ys) left x = get_or-behind ys left x

-- the next room is that of the next id
pub next-room : (config : Configuration) (scripts : List (List Response)) (pipes : List Pipe) (done left : List Taken) (rest : List (List Response)) (room : Taken)
    → IsFilling config scripts pipes done (room ∷ left) rest → room ≡ room_of config scripts (length done)
unfolding rooms_of
next-room config scripts pipes done left rest room h =
    let n : ℕ = length done in
    let lt : n < 32 = omega (arith, few-done config scripts pipes done (room ∷ left) rest h) in
    sym (get_or-behind done left room) ∙ ap (λ (ts : List Taken). get_or ts n room) h.rooms
    ∙ get_or-map-range_with_len (room_of config scripts) 0 32 n n room lt (omega arith)

-- so is the next script
pub next-script : (config : Configuration) (scripts : List (List Response)) (pipes : List Pipe) (done left : List Taken) (rest : List (List Response))
    → IsFilling config scripts pipes done left rest → script_by rest 0 ≡ script_by scripts (length done)
next-script config scripts pipes done left rest h =
    let n : ℕ = length done in
    ap (λ (ss : List (List Response)). script_by ss 0) h.behind
    ∙ unwrap_or-slice_get (drop n scripts) 0 [] ∙ get_or-drop n scripts 0 [] ∙ ap (λ (k : ℕ). get_or scripts k []) (let at : n + 0 ≡ n = omega arith in at)
    ∙ sym (unwrap_or-slice_get scripts n [])

drop-one : (n : ℕ) (xs : List (List Response)) → drop 1 (drop n xs) ≡ drop (n + 1) xs
drop-one zero xs = refl
drop-one (suc n) [] = ap (λ (k : ℕ). drop k []) (let more : suc (n + 1) ≡ suc n + 1 = omega arith in more)
drop-one (suc n) (x ∷ xs) = drop-one n xs ∙ ap (λ (k : ℕ). drop k (x ∷ xs)) (let more : suc (n + 1) ≡ suc n + 1 = omega arith in more)

-- the rooms that are left, named another way
pub left-is : (config : Configuration) (scripts : List (List Response)) (pipes : List Pipe) (done left left' : List Taken) (rest : List (List Response))
    → left ≡ left' → IsFilling config scripts pipes done left rest → IsFilling config scripts pipes done left' rest
left-is config scripts pipes done left left' rest e h = record { made = h.made; rooms = ap (λ (ts : List Taken). done ++ ts) (sym e) ∙ h.rooms; behind = h.behind; fit = h.fit }

-- the next endpoint
pub filled : (config : Configuration) (scripts : List (List Response)) (pipes : List Pipe) (done left : List Taken) (rest : List (List Response)) (room : Taken)
    → IsFilling config scripts pipes done (room ∷ left) rest
    → IsFilling config scripts (pipes ++ pipe_of room.size (script_by rest 0) ∷ []) (done ++ room ∷ []) left (drop 1 rest)
filled config scripts pipes done left rest room h =
    let n : ℕ = length done in
    let long : length (done ++ room ∷ []) ≡ n + 1 = length-append done (room ∷ []) in
    let size = ap (λ (t : Taken). t.size) (next-room config scripts pipes done left rest room h) in
    let script = next-script config scripts pipes done (room ∷ left) rest h in
    record {
      made =
          let f = pipe_by config scripts in
          let one : pipe_of room.size (script_by rest 0) ≡ f n = ap (λ (s : ℕ). pipe_of s (script_by rest 0)) size ∙ ap (pipe_of (size_by config n)) script in
          ap (λ (ps : List Pipe). ps ++ pipe_of room.size (script_by rest 0) ∷ []) h.made ∙ ap (λ (p : Pipe). map f (range_with_len 0 n) ++ p ∷ []) one
          ∙ sym (map-range_with_len_more f 0 n n (omega arith)) ∙ ap (λ (k : ℕ). map f (range_with_len 0 k)) (sym long);
      rooms = append_assoc done (room ∷ []) left ∙ h.rooms;
      behind = ap (drop 1) h.behind ∙ drop-one n scripts ∙ ap (λ (k : ℕ). drop k scripts) (sym long);
      fit = h.fit;
    }

-- all endpoints
pub all-filled : (config : Configuration) (scripts : List (List Response)) (pipes : List Pipe) (done : List Taken) (rest : List (List Response))
    → IsFilling config scripts pipes done [] rest → pipes ≡ pipes_of config scripts
unfolding pipes_of
all-filled config scripts pipes done rest h =
    let all : length done ≡ 32 = omega (arith, few-done config scripts pipes done [] rest h) in
    h.made ∙ ap (λ (n : ℕ). map (pipe_by config scripts) (range_with_len 0 n)) all
