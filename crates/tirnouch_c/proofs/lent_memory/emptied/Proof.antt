-- `emptied` takes the memory from `dislodge`. Assumes `Logic`.
use Rattle.std.proofs.Common.{◌≡◌, ◌^◌, ◌<◌, List, [], ◌∷◌, ◌++◌, refl, sym, ap, ◌∙◌, arith, w64}
use mir.Val.{Val, vint}
use base.Logic.{SProp}
use prog.Wp.{WpFn}
use contract.Monad.{fact}
use contract.Running.{tables}
use types.Kit.{‵, raw, ◌⊛◌, later, given, prop, ◌$◌, ◌∵◌, !, qed, move, keep, use0, use1, split, fsplit, fjoin, regoal, suffices, await, learn, done}
use types.Part.{agg}
use types.Run.{enter, returns, of_opd, and_then, no_more}
use types.ByLocal.{alloc_all, pass_all, free_all, look_at, get, sets, lands_as}
use denote.Exit.{yes}
use denote.RattleType.{owns}
use denote.Builtin.{u8, usize}
use denote.RawPtr.{RawPtr, ptr_val}
use denote.Signature.{plain, types_at}
use denote.Steps.{nothing, heard}
use denote.Triple.Entry.{alive}
use denote.Triple.Call.{calls_at}
use denote.Triple.Table.{framed}
use denote.Triple.Walked.{Stays, stay_dropped, walk_of, ends_at, says}
use Rattle.std.proofs.alloc.Calls.{Goes-blank}
use Rattle.std.proofs.raw_atomic.Walks.{proved_at}
use Rattle.std_alloc.specs.Vec.Ownership.{lodged}
use Rattle.std_alloc.proofs.vec.lodged.Vec+T+Lodged.dislodge.Met as callee
use Rattle.tirnouch_c.proofs.LentCalls.{byte_laws, Housed, housed-laws, tells, Dislodges, at_dislodge, dislodge_goes, dislodge_gives}
use Rattle.tirnouch_c.proofs.LentValues.{lent_val, lent_own, lent_made, lent_typed, ptr_typed}
use Rattle.tirnouch_c.specs.contracts.lent_memory.LentMemory.{the_row as R}
use Rattle.tirnouch_c.specs.contracts.lent_memory.emptied as f
use Rattle.tirnouch_c.proofs.lent_memory.emptied.Statement.{statement}
use Rattle.tirnouch_c.proofs.lent_memory.emptied.Code as code

abbrev stayed : Stays f.ended.signature.params f.ended.kept
stayed = (stay_dropped (plain (λ _. Housed)) yes, (stay_dropped (plain (λ _. RawPtr)) yes, (stay_dropped (plain (λ _. usize)) yes, tt)))

pub emptied_spec : {M : Type 1} → statement M
emptied_spec 𝓤 𝓛 𝓜 𝓡 wired =
    let H = 𝓛.H in let 𝓣 = tables 𝓤 H 𝓜 𝓡 𝓡.env in let c = f.clauses 𝓛 𝓜.mem 𝓡.returns in let fn = code.function in
    proved_at 𝓛 f.ended stayed c 𝓜 𝓡 (Goes-blank 𝓛 0 (plain (λ _. Housed)) yes (λ κs x g. tt), (Goes-blank 𝓛 0 (plain (λ _. RawPtr)) yes (λ κs x g. tt), (Goes-blank 𝓛 0 (plain (λ _. usize)) yes (λ κs x g. tt), tt)))
    f.Key.name fn (code.unfolded 𝓤 H 𝓜 𝓡 wired) (λ z are.
    let Post : Val → SProp 𝓤 = (walk_of 𝓛 f.ended stayed c).post z in
    let d = z.0.3.0 in let p = d.ptr in let n = d.len in let k = d.cap in
    let r : R.Denot = record { at = p; len = k; filled = n; bytes = d.items; ok = (d.ok.0, d.ok.1, d.small) } in
    let fk : k < 2 ^ 64 = omega (arith, d.small) in
    let Asked : Type 0 = (z.0.3.1.0 ≡ p) × (z.0.3.1.1.0 ≡ k) in
    qed 𝓛 ((raw (alive 𝓛 f.signature z.0.0 z.0.1) ⊛ ‵ (owns (types_at f.signature.params z.0.0) z.0.3 z.0.4)) ∷ raw (fact 𝓤 Asked) ∷ []) ∵
    move ! (1 ∷ []) $ heard ! Asked (λ asked. split ! $ move ! (1 ∷ []) $ fsplit ! $ keep ! (0 ∷ []) $
    tells ! Housed housed-laws d z.0.4.0 (λ u is good.
    regoal ! (λ (us : List Val). prop (WpFn 𝓤 H 𝓣.C 𝓣.Λ fn us Post))
    (λ i. is i ++ ((are.1.0 ∙ ap (λ q. ptr_val q ∷ []) asked.0) i ++ ((are.1.1.0.0 ∙ ap (λ j. vint w64 j ∷ []) asked.1) i ++ []))) refl $
    enter ! 𝓣.C 𝓣.Λ fn (u ∷ ptr_val p ∷ vint w64 k ∷ []) Post $
    alloc_all ! (λ l. pass_all ! refl (good, (ptr_typed p, ((tt, record { fits = fk }), tt))) $
    sets ! (of_opd ! (get ! refl)) refl good $
    let G = Dislodges 𝓛 𝓜.mem 𝓡.returns in let y = at_dislodge 𝓛 𝓜.mem 𝓡.returns d u in
    use1 𝓛 (raw (G.pre y)) (dislodge_goes 𝓛 𝓜.mem 𝓡.returns d u) $
    calls_at ! (framed 𝓤 H 𝓜 𝓣) G (callee.met 𝓤 𝓛 𝓜 𝓡 (code.calls-std_alloc::vec::lodged::Vec+T+Lodged::dislodge 𝓡.env wired) u8 byte_laws) y
    (and_then ! (get ! refl) (no_more !)) (λ w.
    use1 𝓛 (later (given ((w ≡ vint w64 n) × (n < 2 ^ 64)) (‵ (lodged u8 p n k d.items)))) (dislodge_gives 𝓛 𝓜.mem 𝓡.returns d u w) $
    await ! tt $ learn ! (λ got. lands_as ! got.0 refl (tt, record { fits = got.1 }) $
    sets ! (agg ! (and_then ! (get ! refl) (and_then ! (get ! refl) (and_then ! (get ! refl) (no_more !))))) refl (lent_typed p k n fk got.1) $
    returns ! (look_at ! 0 refl) $ free_all ! refl $
    use0 𝓛 (‵ (lent_own p k n (lent_val p k n ∷ []))) (lent_made 𝓛 p k n fk got.1) $ fjoin ! $
    suffices ! _ (ends_at 𝓛 f.ended stayed c z (lent_val p k n) r (tt, (tt, (tt, tt))) (tt, (tt, (tt, tt)))) $
    says ! (refl, refl, sym asked.1, sym asked.0) $
    nothing ! $ nothing ! $ fjoin ! $ nothing ! $ fjoin ! $ nothing ! $ fjoin ! $ nothing ! $ done !))))))
