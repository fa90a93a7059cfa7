use Rattle.std.proofs.Common.{◌≡◌, ◌+◌, ◌++◌, ◌∷◌, [], sym, ◌∙◌, length, subst, refl, length-append, Some, IfOk, IfSome, slice_get}
use Rattle.std.proofs.lemmas.Iterator.Adapters.{YieldsList-from_vec}
use Rattle.std.proofs.lemmas.Iterator.Consumers.{YieldsList-turn}
use Rattle.std.proofs.lemmas.Option.{slice_get_read}
use Rattle.dn_crew.specs.Shares.{IsShare, IsGathered}
use Rattle.dn_crew.proofs.gathering.gather.Goals as goal

pub loop-share-preserved : goal.loop-share-preserved
loop-share-preserved c =
    let xs = c.args.shares.items in
    let j = length c.loop-share.yielded in
    let e = c.into_iter-share-iterator.ensures.into_iter_gives in
    let t = YieldsList-turn (YieldsList-from_vec xs e.0 (e.1 ∙ c.args.shares.ok.0)) c.loop-share.yielded c.loop-share.share-iterator c.loop-share.yielded_by c.next.result c.next.new.self c.in-Some.share c.in-Some.is c.next.ensures.steps in
    let at : slice_get xs j ≡ Some c.in-Some.share = slice_get_read xs (length xs) j c.in-Some.share refl t.0 t.1 in
    let here = subst (λ o. IfSome o (λ r. IfOk r (λ s. IsShare c.args.gate.now c.args._list.now c.args._workers j s.pass s.draws.items s.repeats.items))) at (c.requires.shares j) in
    let share = subst (λ r. IfOk r (λ s. IsShare c.args.gate.now c.args._list.now c.args._workers j s.pass s.draws.items s.repeats.items)) c.in_ok-share.was here in
    let k = c.in_ok-take_in.ensures c.args._list.now c.args._workers j c.args.closer.closing c.args.closer.refused c.loop-share.invariant.2 share in
    let long : j + 1 ≡ length (c.loop-share.yielded ++ c.in-Some.share ∷ []) = sym (length-append c.loop-share.yielded (c.in-Some.share ∷ [])) in
    (tt, tt, subst (λ n. IsGathered c.args.gate.now c.args._list.now c.args._workers n c.args.closer.closing c.args.closer.refused c.take_in.new.all.pass c.take_in.new.all.draws.items c.take_in.new.all.repeats.items) long k)
