use Rattle.std.proofs.Common.{◌≡◌, ◌<◌, ◌++◌, ◌∷◌, [], sym, ap, subst, ◌∙◌, arith, length, refl, true, false}
use Rattle.dn_wire.specs.declared.ids.SignerId.TheVariants.{Client}
use Rattle.dn_lms.specs.Key.{leaf_count}
use Rattle.dn_client.specs.declared.made.Made.{Made}
use Rattle.dn_client.specs.Client.{submission_of, sealed_as_client}
use Rattle.dn_client.specs.Submitting.{IsMadeNow, IsUnsigned, IsNewRound}
use Rattle.dn_seal.specs.Signer.{CanSign, sealed_in}
use Rattle.dn_client.specs.Inside.{view_of}
use Rattle.dn_client.proofs.Clients.{keeps_of, keeps_key, still_client, submits, enveloped}
use Rattle.dn_client.proofs.client.Client.submit.Goals as goal

pub invariant_of-self-in_err-reserve : goal.invariant_of-self-in_err-reserve
invariant_of-self-in_err-reserve c =
    let v = view_of c.self.inside in
    let keeps = c.self.invariant in
    keeps_of (record v { spent = true }) (λ i. record v { made = c.reserve.ensures.items i; spent = true }) (still_client v v.left true keeps.client) keeps.signer keeps.slot_signer keeps.one_group (λ e. absurd cc)

pub returns-in_err-reserve-clause-client : goal.returns-in_err-reserve-clause-client
unfolding invariant_of-self-in_err-reserve
returns-in_err-reserve-clause-client c = (invariant_of-self-in_err-reserve c).client

pub seal-requires-clause-fits : goal.seal-requires-clause-fits
seal-requires-clause-fits c = subst (λ w. CanSign w c.statement_of-statement.result) (sym c.self.invariant.signer) c.statement_of-statement.ensures.fits

pub invariant_of-self-in_err-sealed : goal.invariant_of-self-in_err-sealed
invariant_of-self-in_err-sealed c =
    let v = view_of c.self.inside in
    let keeps = c.self.invariant in
    let key_is = c.in_err-sealed.ensures.lost in
    keeps_key c.self.inside (record v { spent = true }) c.self.inside.key.signed true keeps key_is refl refl refl
    (λ i. record v { who = record v.who { digest = (key_is i).digest; key = (key_is i).key }; made = c.reserve.ensures.items i; signed = (key_is i).signed; spent = true })
    (still_client v v.left true keeps.client) (λ e. absurd cc)

pub returns-in_err-sealed-clause-client : goal.returns-in_err-sealed-clause-client
unfolding invariant_of-self-in_err-sealed
returns-in_err-sealed-clause-client c = (invariant_of-self-in_err-sealed c).client

pub invariant_of-self-in_err-submission : goal.invariant_of-self-in_err-submission
invariant_of-self-in_err-submission c =
    let v = view_of c.self.inside in
    let keeps = c.self.invariant in
    let m : Made = record c.in_ok-made.made { envelope = c.of.result } in
    let s = submission_of v.who m in
    let statement_is = c.statement_of-statement.ensures.value in
    let key_is = c.in_ok-sealed.ensures.signed ∙ ap (λ t. record c.self.inside.key { signed = v.signed ++ t ∷ [] }) statement_is in
    let unspent : c.self.inside.spent ≡ false = ap (λ w. w.spent) c.self.view_is ∙ c.requires.unspent in
    let made_is : c.push_reserved.new.self.items ≡ v.made ++ m ∷ [] = c.push_reserved.ensures.items ∙ ap (λ l. l ++ m ∷ []) c.reserve.ensures.items in
    let leaf : length v.signed < leaf_count v.who.key = omega (arith, c.left.ensures.count, c.if-left-eq0.false) in
    let unsigned = enveloped v c.args.r c.in_ok-made.made c.of.result (subst (λ w. IsUnsigned w c.args.r c.in_ok-made.made) (sym c.self.view_is) c.in_ok-made.ensures) in
    let next = subst (λ w. IsNewRound w c.args.r) (sym c.self.view_is) c.requires.next in
    let fits = subst (λ t. CanSign (Client v.who.me) t) statement_is c.statement_of-statement.ensures.fits in
    let sealed : m.envelope ≡ sealed_as_client v.who (length v.signed) s = c.of.ensures ∙ c.in_ok-sealed.ensures.sealed ∙ ap (λ t. sealed_in v.who.digest c.self.inside.key.who v.who.key (length v.signed) t) statement_is ∙ ap (λ w. sealed_in v.who.digest w v.who.key (length v.signed) s) keeps.signer in
    keeps_key c.self.inside (record v { made = v.made ++ m ∷ []; signed = v.signed ++ s ∷ []; spent = true }) (v.signed ++ s ∷ []) c.self.inside.key.lost keeps key_is refl refl refl
    (λ i. record v { who = record v.who { digest = (key_is i).digest; key = (key_is i).key }; made = made_is i; signed = (key_is i).signed; spent = true })
    (still_client (record v { made = v.made ++ m ∷ []; signed = v.signed ++ s ∷ [] }) v.left true (submits v c.args.r m c.requires.round next unsigned fits leaf sealed keeps.client)) (λ e. absurd cc)

pub returns-in_err-submission-clause-client : goal.returns-in_err-submission-clause-client
unfolding invariant_of-self-in_err-submission
returns-in_err-submission-clause-client c = (invariant_of-self-in_err-submission c).client

pub invariant_of-self-2 : goal.invariant_of-self-2
invariant_of-self-2 c =
    let v = view_of c.self.inside in
    let keeps = c.self.invariant in
    let m : Made = record c.in_ok-made.made { envelope = c.of.result } in
    let s = submission_of v.who m in
    let statement_is = c.statement_of-statement.ensures.value in
    let key_is = c.in_ok-sealed.ensures.signed ∙ ap (λ t. record c.self.inside.key { signed = v.signed ++ t ∷ [] }) statement_is in
    let unspent : c.self.inside.spent ≡ false = ap (λ w. w.spent) c.self.view_is ∙ c.requires.unspent in
    let made_is : c.push_reserved.new.self.items ≡ v.made ++ m ∷ [] = c.push_reserved.ensures.items ∙ ap (λ l. l ++ m ∷ []) c.reserve.ensures.items in
    let leaf : length v.signed < leaf_count v.who.key = omega (arith, c.left.ensures.count, c.if-left-eq0.false) in
    let unsigned = enveloped v c.args.r c.in_ok-made.made c.of.result (subst (λ w. IsUnsigned w c.args.r c.in_ok-made.made) (sym c.self.view_is) c.in_ok-made.ensures) in
    let next = subst (λ w. IsNewRound w c.args.r) (sym c.self.view_is) c.requires.next in
    let fits = subst (λ t. CanSign (Client v.who.me) t) statement_is c.statement_of-statement.ensures.fits in
    let sealed : m.envelope ≡ sealed_as_client v.who (length v.signed) s = c.of.ensures ∙ c.in_ok-sealed.ensures.sealed ∙ ap (λ t. sealed_in v.who.digest c.self.inside.key.who v.who.key (length v.signed) t) statement_is ∙ ap (λ w. sealed_in v.who.digest w v.who.key (length v.signed) s) keeps.signer in
    let whole = keeps.whole unspent in
    keeps_key c.self.inside (record v { made = v.made ++ m ∷ []; signed = v.signed ++ s ∷ [] }) (v.signed ++ s ∷ []) c.self.inside.key.lost keeps key_is refl refl refl
    (λ i. record v { who = record v.who { digest = (key_is i).digest; key = (key_is i).key }; made = made_is i; signed = (key_is i).signed; spent = sym unspent i })
    (submits v c.args.r m c.requires.round next unsigned fits leaf sealed keeps.client) (λ e. whole)

pub returns-clause-client : goal.returns-clause-client
unfolding invariant_of-self-2
returns-clause-client c = (invariant_of-self-2 c).client

pub returns-clause-given : goal.returns-clause-given
returns-clause-given c =
    let v = view_of c.self.inside in
    let keeps = c.self.invariant in
    let m : Made = record c.in_ok-made.made { envelope = c.of.result } in
    let s = submission_of v.who m in
    let statement_is = c.statement_of-statement.ensures.value in
    let key_is = c.in_ok-sealed.ensures.signed ∙ ap (λ t. record c.self.inside.key { signed = v.signed ++ t ∷ [] }) statement_is in
    let unspent : c.self.inside.spent ≡ false = ap (λ w. w.spent) c.self.view_is ∙ c.requires.unspent in
    let made_is : c.push_reserved.new.self.items ≡ v.made ++ m ∷ [] = c.push_reserved.ensures.items ∙ ap (λ l. l ++ m ∷ []) c.reserve.ensures.items in
    let leaf : length v.signed < leaf_count v.who.key = omega (arith, c.left.ensures.count, c.if-left-eq0.false) in
    let unsigned = enveloped v c.args.r c.in_ok-made.made c.of.result (subst (λ w. IsUnsigned w c.args.r c.in_ok-made.made) (sym c.self.view_is) c.in_ok-made.ensures) in
    let next = subst (λ w. IsNewRound w c.args.r) (sym c.self.view_is) c.requires.next in
    let fits = subst (λ t. CanSign (Client v.who.me) t) statement_is c.statement_of-statement.ensures.fits in
    let sealed : m.envelope ≡ sealed_as_client v.who (length v.signed) s = c.of.ensures ∙ c.in_ok-sealed.ensures.sealed ∙ ap (λ t. sealed_in v.who.digest c.self.inside.key.who v.who.key (length v.signed) t) statement_is ∙ ap (λ w. sealed_in v.who.digest w v.who.key (length v.signed) s) keeps.signer in
    subst (λ w. IsMadeNow w c.args.r c.in_ok-submission.submission
    (record v { who = record v.who { digest = c.seal.new.self.digest; key = c.seal.new.self.key }; made = c.push_reserved.new.self.items; signed = c.seal.new.self.signed; spent = false }))
    c.self.view_is
    record {
      made = m;
      next = next;
      content = unsigned;
      leaf = leaf;
      sealed = sealed;
      given = c.in_ok-submission.ensures v.made m (c.deref.ensures.value ∙ made_is);
      kept = λ i. record v { who = record v.who { digest = (key_is i).digest; key = (key_is i).key }; made = made_is i; signed = (key_is i).signed; spent = sym unspent i };
    }
