-- `into_vec` hands the memory to `lodge`. Assumes `Logic`.
use Rattle.std.proofs.Common.{ℕ, ◌*◌, ◌^◌, List, [], ◌∷◌, ◌++◌, refl, sym, ap, ◌∙◌, subst, Vec}
use mir.Val.{Val}
use base.Logic.{SProp, id⊢, never}
use base.Fml.{ftrue}
use prog.Wp.{WpFn}
use contract.Running.{tables}
use types.Kit.{‵, raw, ◌⊛◌, later, some, given, prop, at_ret, ◌$◌, ◌∵◌, !, qed, move, keep, use1, split, fsplit, fjoin, flt_l, flt_i, regoal, rewrite, suffices, await, pick, learn, done}
use types.Part.{whole, sub}
use types.Run.{stop, fld, enter, returns, of_opd, and_then, no_more, first, blocks, exec}
use types.ByLocal.{alloc_all, pass_all, free_all, look_at, get, get_in, sets, lands_last, env}
use denote.Exit.{yes}
use denote.RattleType.{owns}
use denote.Builtin.{u8}
use denote.RawPtr.{Ptr, block_ptr, in_block, in_a_block}
use denote.Signature.{plain, types_at}
use denote.Steps.{nothing, only}
use denote.Triple.Entry.{alive}
use denote.Triple.Call.{calls_at_last}
use denote.Triple.Table.{framed}
use denote.Triple.Walked.{Stays, stay_dropped, walk_of, ends_at, says}
use Rattle.std.specs.Allocator.{block_with_items}
use Rattle.std.proofs.alloc.Calls.{Goes-blank}
use Rattle.std.proofs.raw_atomic.Walks.{proved_at}
use Rattle.std.proofs.VecSteps.Shapes.{after}
use Rattle.std_alloc.specs.Vec.Ownership.{owns_if, has_block}
use Rattle.std_alloc.specs.declared.vec.lodged.Lodged.{Lodged}
use Rattle.std_alloc.proofs.vec.lodge.Met as callee
use Rattle.tirnouch_c.proofs.LentCalls.{byte_laws, Housed, housed-laws, Good, tells, Lodges, at_lodge, IsLodged, lodge_goes, lodge_gives}
use Rattle.tirnouch_c.proofs.LentValues.{lent_val, lent_told}
use Rattle.tirnouch_c.specs.contracts.lent_memory.LentMemory.{the_row as R}
use Rattle.tirnouch_c.specs.contracts.lent_memory.LentMemory.into_vec as f
use Rattle.tirnouch_c.proofs.lent_memory.LentMemory.into_vec.Statement.{statement}
use Rattle.tirnouch_c.proofs.lent_memory.LentMemory.into_vec.Code as code

abbrev stayed : Stays f.ended.signature.params f.ended.kept
stayed = (stay_dropped (plain (λ _. R)) yes, tt)

pub into_vec_spec : {M : Type 1} → statement M
into_vec_spec 𝓤 𝓛 𝓜 𝓡 wired =
    let H = 𝓛.H in let 𝓣 = tables 𝓤 H 𝓜 𝓡 𝓡.env in let c = f.clauses 𝓛 𝓜.mem 𝓡.returns in let fn = code.function in
    proved_at 𝓛 f.ended stayed c 𝓜 𝓡 (Goes-blank 𝓛 0 (plain (λ _. R)) yes (λ κs x g. tt), tt)
    f.Key.name fn (code.unfolded 𝓤 H 𝓜 𝓡 wired) (λ z are.
    let Post : Val → SProp 𝓤 = (walk_of 𝓛 f.ended stayed c).post z in
    let m = z.0.3.0 in let p = m.at in let n = m.filled in let k = m.len in let xs = m.bytes in
    let told = lent_told p k n z.0.4.0 are.0.0 in
    let Blk = λ (q : Ptr). owns_if (has_block k) (block_with_items (λ _ _. ftrue) u8 q n k xs) in
    qed 𝓛 ((raw (alive 𝓛 f.signature z.0.0 z.0.1) ⊛ ‵ (owns (types_at f.signature.params z.0.0) z.0.3 z.0.4)) ∷ ‵ ftrue ∷ []) ∵
    split ! $ move ! (1 ∷ []) $ fsplit ! $ fsplit ! $ keep ! (1 ∷ []) $
    fsplit ! $ flt_l ! (λ fit. in_a_block ! p (λ q. in_block q (Blk q)) (id⊢ 𝓤 (never 𝓤)) (λ b o at.
    flt_i ! (k * 1) (2 ^ 63) fit $ fjoin ! $
    regoal ! (λ (us : List Val). prop (WpFn 𝓤 H 𝓣.C 𝓣.Λ fn us Post)) (λ i. (told.0 ∙ ap (λ q. lent_val q k n ∷ []) at) i ++ []) refl $
    enter ! 𝓣.C 𝓣.Λ fn (lent_val (block_ptr b o) k n ∷ []) Post $
    alloc_all ! (λ l. pass_all ! refl ((tt, (tt, (record { fits = told.1 }, (record { fits = told.2 }, tt)))), tt) $
    sets ! (of_opd ! (get_in ! (fld ! refl (stop !)) (sub ! 0 refl (whole !)))) refl (tt, tt) $
    sets ! (of_opd ! (get_in ! (fld ! refl (stop !)) (sub ! 1 refl (whole !)))) refl (tt, record { fits = told.1 }) $
    sets ! (of_opd ! (get_in ! (fld ! refl (stop !)) (sub ! 2 refl (whole !)))) refl (tt, record { fits = told.2 }) $
    first ! $ blocks ! $
    let G = Lodges 𝓛 𝓜.mem 𝓡.returns in let y = at_lodge 𝓛 𝓜.mem 𝓡.returns b o n k xs in
    use1 𝓛 (raw (G.pre y)) (lodge_goes 𝓛 𝓜.mem 𝓡.returns b o n k xs m.ok.0 m.ok.1 m.ok.2) $
    calls_at_last ! (framed 𝓤 H 𝓜 𝓣) G (callee.met 𝓤 𝓛 𝓜 𝓡 (code.calls-std_alloc::vec::lodge 𝓡.env wired) u8 byte_laws) y
    (and_then ! (get ! refl) (and_then ! (get ! refl) (and_then ! (get ! refl) (no_more !)))) (λ v.
    use1 𝓛 (later (some (λ (r : Vec ℕ Lodged). given (IsLodged 𝓛 𝓜.mem 𝓡.returns b o n k xs r) (‵ (Housed.own_val r (v ∷ [])))))) (lodge_gives 𝓛 𝓜.mem 𝓡.returns b o n k xs v) $
    await ! tt $ pick ! (λ r. learn ! (λ is. tells ! Housed housed-laws r (v ∷ []) (λ u same good.
    let fine : Good Housed v = subst (Good Housed) (sym (ap only same)) good in
    rewrite ! 0 (λ w. ‵ (Housed.own_val r (w ∷ []))) (sym (ap only same)) refl $ lands_last ! refl fine $
    exec ! 𝓣.C 𝓣.Λ (env fn.locals l) (after 4 fn.body) (at_ret (env fn.locals l) Post) $
    sets ! (of_opd ! (get ! refl)) refl fine $
    returns ! (look_at ! 0 refl) $ free_all ! refl $
    suffices ! _ (ends_at 𝓛 f.ended stayed c z v r (tt, tt) (tt, tt)) $ says ! (is.0, is.1, is.2, is.3 ∙ sym at) $
    nothing ! $ nothing ! $ fjoin ! $ nothing ! $ done !))))))))
