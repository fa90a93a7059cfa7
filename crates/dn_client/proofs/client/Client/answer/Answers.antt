use Rattle.std.proofs.Common.{◌≡◌, ◌<◌, ◌≤◌, ◌++◌, ◌∷◌, [], sym, ap, subst, ◌∙◌, arith, length, refl, true, false, rules}
use Rattle.dn_wire.specs.declared.limits.TheConstants.{MAX_CARRIED_BYTES}
use Rattle.dn_lms.specs.Key.{leaf_count}
use Rattle.dn_seal.specs.Signer.{CanSign, sealed_in}
use Rattle.std.proofs.lemmas.List.{get_or_default}
use Rattle.std.proofs.lemmas.Option.{get_or_from_slice_get, slice_get_within}
use Rattle.dn_record_types.specs.declared.statement.Statement.TheVariants as kinds
use Rattle.dn_wire.specs.declared.ids.SignerId.TheVariants.{Client}
use Rattle.dn_seal.specs.Said.{SaidView, IsSaid, IsUnder}
use Rattle.dn_client.specs.declared.answered.Answered.{Answered}
use Rattle.dn_client.specs.Client.{ClientView, IsIn, sealed_as_client, seed_with}
use Rattle.dn_client.specs.Answering.{IsChallengedBy, IsRebutted, IsGoodRebuttal, rebuttal_of}
use Rattle.dn_client.specs.Inside.{view_of}
use Rattle.dn_client.proofs.Clients.{keeps_of, keeps_key, still_client, answers}
use Rattle.dn_client.proofs.Signatures.{said_short}
use Rattle.dn_client.proofs.Goodness.{good_so}
use Rattle.dn_client.proofs.client.Client.answer.Goals as goal

pub invariant_of-self : goal.invariant_of-self
invariant_of-self c =
    let v = view_of c.self.inside in
    let keeps = c.self.invariant in
    keeps_of (record v { spent = true }) refl (still_client v v.left true keeps.client) keeps.signer keeps.slot_signer keeps.one_group (λ e. absurd cc)

pub returns-in_err-envelope-clause-client : goal.returns-in_err-envelope-clause-client
unfolding invariant_of-self
returns-in_err-envelope-clause-client c = (invariant_of-self c).client

pub invariant_of-self-in_err-reserve : goal.invariant_of-self-in_err-reserve
invariant_of-self-in_err-reserve c =
    let v = view_of c.self.inside in
    let keeps = c.self.invariant in
    keeps_of (record v { spent = true }) (λ i. record v { answered = c.reserve.ensures.items i; spent = true }) (still_client v v.left true keeps.client) keeps.signer keeps.slot_signer keeps.one_group (λ e. absurd cc)

pub returns-in_err-reserve-clause-client : goal.returns-in_err-reserve-clause-client
unfolding invariant_of-self-in_err-reserve
returns-in_err-reserve-clause-client c = (invariant_of-self-in_err-reserve c).client

pub invariant_of-self-in_err-sealed : goal.invariant_of-self-in_err-sealed
invariant_of-self-in_err-sealed c =
    let v = view_of c.self.inside in
    let keeps = c.self.invariant in
    let key_is = c.in_err-sealed.ensures.lost in
    keeps_key c.self.inside (record v { spent = true }) c.self.inside.key.signed true keeps key_is refl refl refl
    (λ i. record v { who = record v.who { digest = (key_is i).digest; key = (key_is i).key }; answered = c.reserve.ensures.items i; signed = (key_is i).signed; spent = true })
    (still_client v v.left true keeps.client) (λ e. absurd cc)

pub returns-in_err-sealed-clause-client : goal.returns-in_err-sealed-clause-client
unfolding invariant_of-self-in_err-sealed
returns-in_err-sealed-clause-client c = (invariant_of-self-in_err-sealed c).client

pub index-requires-2 : goal.index-requires-2
index-requires-2 c =
    let v = view_of c.self.inside in
    let keeps = c.self.invariant in
    let ch = c.args.c.now in
    let n = c.in-Ok.server in
    let both = subst (λ (w : ClientView). IsChallengedBy w ch n) (sym c.self.view_is) c.in-Ok.ensures.server in
    let said = both.1.said in
    let within_shown = slice_get_within ch.shown.items n said both.1.there in
    let within : n < length v.who.seeds = omega (arith, within_shown, both.0.asked.opened.1.count) in
    omega (arith, within, c.self.inside.seeds.ok.0)

pub overflow_cast-server : goal.overflow_cast-server
overflow_cast-server c =
    let v = view_of c.self.inside in
    let keeps = c.self.invariant in
    let ch = c.args.c.now in
    let n = c.in-Ok.server in
    let both = subst (λ (w : ClientView). IsChallengedBy w ch n) (sym c.self.view_is) c.in-Ok.ensures.server in
    let said = both.1.said in
    let within_shown = slice_get_within ch.shown.items n said both.1.there in
    let within : n < length v.who.seeds = omega (arith, within_shown, both.0.asked.opened.1.count) in
    omega (arith, within, keeps.client.seeds.1)

pub invariant_of-self-2 : goal.invariant_of-self-2
invariant_of-self-2 c =
    let v = view_of c.self.inside in
    let keeps = c.self.invariant in
    let ch = c.args.c.now in
    let n = c.in-Ok.server in
    let both = subst (λ (w : ClientView). IsChallengedBy w ch n) (sym c.self.view_is) c.in-Ok.ensures.server in
    let said = both.1.said in
    let within_shown = slice_get_within ch.shown.items n said both.1.there in
    let within : n < length v.who.seeds = omega (arith, within_shown, both.0.asked.opened.1.count) in
    let bytes_is : c.of-envelope.result ≡ said.bytes = c.of-envelope.ensures ∙ c.in_ok-envelope.ensures.items ∙ c.bytes.ensures.value
    ∙ ap (λ (x : SaidView). x.bytes) (c.index.ensures ∙ get_or_from_slice_get ch.shown.items n said c.index.result.now both.1.there) in
    let seed_is : c.index-2.result.now ≡ seed_with v.who n = c.index-2.ensures ∙ get_or_default v.who.seeds n c.index-2.result.now [] within in
    let s = rebuttal_of v.who ch n said in
    let a : Answered = record { r = ch.r; k = ch.k } in
    let statement_is : c.rebuttal_of-rebuttal.result ≡ s = c.rebuttal_of-rebuttal.ensures.value ∙ (λ i. kinds.Rebuttal ch.r ch.k record { 0 = n } (seed_is i) (bytes_is i)) in
    let key_is = c.in_ok-sealed.ensures.signed ∙ ap (λ t. record c.self.inside.key { signed = v.signed ++ t ∷ [] }) statement_is in
    let unspent = c.if-self.false in
    let answered_is : c.push_reserved.new.self.items ≡ v.answered ++ a ∷ [] = c.push_reserved.ensures.items ∙ ap (λ l. l ++ a ∷ []) c.reserve.ensures.items in
    let leaf : length v.signed < leaf_count v.who.key = omega (arith, c.left.ensures.count, c.if-left-eq0.false) in
    keeps_key c.self.inside (record v { answered = v.answered ++ a ∷ []; signed = v.signed ++ s ∷ [] }) (v.signed ++ s ∷ []) c.self.inside.key.lost keeps key_is refl refl refl
    (λ i. record v { who = record v.who { digest = (key_is i).digest; key = (key_is i).key }; answered = answered_is i; signed = (key_is i).signed; spent = sym unspent i })
    (answers v a s (record { 0 = n }, seed_with v.who n, said.bytes, refl) refl refl leaf keeps.client) (λ e. keeps.whole unspent)

pub returns-clause-client : goal.returns-clause-client
unfolding invariant_of-self-2
returns-clause-client c = (invariant_of-self-2 c).client

pub returns-clause-rebutted : goal.returns-clause-rebutted
returns-clause-rebutted c =
    let v = view_of c.self.inside in
    let keeps = c.self.invariant in
    let ch = c.args.c.now in
    let n = c.in-Ok.server in
    let both = subst (λ (w : ClientView). IsChallengedBy w ch n) (sym c.self.view_is) c.in-Ok.ensures.server in
    let said = both.1.said in
    let within_shown = slice_get_within ch.shown.items n said both.1.there in
    let within : n < length v.who.seeds = omega (arith, within_shown, both.0.asked.opened.1.count) in
    let bytes_is : c.of-envelope.result ≡ said.bytes = c.of-envelope.ensures ∙ c.in_ok-envelope.ensures.items ∙ c.bytes.ensures.value
    ∙ ap (λ (x : SaidView). x.bytes) (c.index.ensures ∙ get_or_from_slice_get ch.shown.items n said c.index.result.now both.1.there) in
    let seed_is : c.index-2.result.now ≡ seed_with v.who n = c.index-2.ensures ∙ get_or_default v.who.seeds n c.index-2.result.now [] within in
    let s = rebuttal_of v.who ch n said in
    let a : Answered = record { r = ch.r; k = ch.k } in
    let statement_is : c.rebuttal_of-rebuttal.result ≡ s = c.rebuttal_of-rebuttal.ensures.value ∙ (λ i. kinds.Rebuttal ch.r ch.k record { 0 = n } (seed_is i) (bytes_is i)) in
    let key_is = c.in_ok-sealed.ensures.signed ∙ ap (λ t. record c.self.inside.key { signed = v.signed ++ t ∷ [] }) statement_is in
    let unspent = c.if-self.false in
    let answered_is : c.push_reserved.new.self.items ≡ v.answered ++ a ∷ [] = c.push_reserved.ensures.items ∙ ap (λ l. l ++ a ∷ []) c.reserve.ensures.items in
    let leaf : length v.signed < leaf_count v.who.key = omega (arith, c.left.ensures.count, c.if-left-eq0.false) in
    let sealed : c.in_ok-sealed.sealed.items ≡ sealed_as_client v.who (length v.signed) s =
    c.in_ok-sealed.ensures.sealed ∙ (λ i. sealed_in v.who.digest (keeps.signer i) v.who.key (length v.signed) (statement_is i)) in
    let said_is : c.index.result.now ≡ said = c.index.ensures ∙ get_or_from_slice_get ch.shown.items n said c.index.result.now both.1.there in
    let is : IsSaid said = subst IsSaid said_is c.bytes.ensures.said in
    let pads = both.0.asked.opened.1.each n said both.1.there in
    let short : length c.of-envelope.result ≤ MAX_CARRIED_BYTES = omega (arith, ap length bytes_is, said_short said ch.r ch.k pads.0 is pads.2) in
    let can : CanSign (Client v.who.me) s = subst (λ t. CanSign (Client v.who.me) t) statement_is (c.rebuttal_of-rebuttal.ensures.fits c.self.inside.me (search rules) short) in
    subst (λ w. IsRebutted w ch c.in_ok-sealed.sealed.items
    (record v { who = record v.who { digest = c.seal.new.self.digest; key = c.seal.new.self.key }; answered = c.push_reserved.new.self.items; signed = c.seal.new.self.signed; spent = false }))
    c.self.view_is
    record {
      challenged = both.0;
      server = n;
      false_bit = both.1;
      leaf = leaf;
      fits = can;
      sealed = sealed;
      kept = λ i. record v { who = record v.who { digest = (key_is i).digest; key = (key_is i).key }; answered = answered_is i; signed = (key_is i).signed; spent = sym unspent i };
    }

pub seal-requires-clause-fits : goal.seal-requires-clause-fits
seal-requires-clause-fits c =
    let v = view_of c.self.inside in
    let keeps = c.self.invariant in
    let ch = c.args.c.now in
    let n = c.in-Ok.server in
    let both = subst (λ (w : ClientView). IsChallengedBy w ch n) (sym c.self.view_is) c.in-Ok.ensures.server in
    let said = both.1.said in
    let within_shown = slice_get_within ch.shown.items n said both.1.there in
    let within : n < length v.who.seeds = omega (arith, within_shown, both.0.asked.opened.1.count) in
    let said_is : c.index.result.now ≡ said = c.index.ensures ∙ get_or_from_slice_get ch.shown.items n said c.index.result.now both.1.there in
    let is : IsSaid said = subst IsSaid said_is c.bytes.ensures.said in
    let pads = both.0.asked.opened.1.each n said both.1.there in
    let bytes_is : c.of-envelope.result ≡ said.bytes = c.of-envelope.ensures ∙ c.in_ok-envelope.ensures.items ∙ c.bytes.ensures.value ∙ ap (λ (x : SaidView). x.bytes) said_is in
    let short : length c.of-envelope.result ≤ MAX_CARRIED_BYTES = omega (arith, ap length bytes_is, said_short said ch.r ch.k pads.0 is pads.2) in
    subst (λ w. CanSign w c.rebuttal_of-rebuttal.result) (sym keeps.signer) (c.rebuttal_of-rebuttal.ensures.fits c.self.inside.me (search rules) short)

pub returns-clause-good : goal.returns-clause-good
returns-clause-good c roster within_now all =
    let v = view_of c.self.inside in
    let keeps = c.self.invariant in
    let ch = c.args.c.now in
    let n = c.in-Ok.server in
    let both = subst (λ (w : ClientView). IsChallengedBy w ch n) (sym c.self.view_is) c.in-Ok.ensures.server in
    let said = both.1.said in
    let within_shown = slice_get_within ch.shown.items n said both.1.there in
    let within : n < length v.who.seeds = omega (arith, within_shown, both.0.asked.opened.1.count) in
    let bytes_is : c.of-envelope.result ≡ said.bytes = c.of-envelope.ensures ∙ c.in_ok-envelope.ensures.items ∙ c.bytes.ensures.value
    ∙ ap (λ (x : SaidView). x.bytes) (c.index.ensures ∙ get_or_from_slice_get ch.shown.items n said c.index.result.now both.1.there) in
    let seed_is : c.index-2.result.now ≡ seed_with v.who n = c.index-2.ensures ∙ get_or_default v.who.seeds n c.index-2.result.now [] within in
    let s = rebuttal_of v.who ch n said in
    let a : Answered = record { r = ch.r; k = ch.k } in
    let statement_is : c.rebuttal_of-rebuttal.result ≡ s = c.rebuttal_of-rebuttal.ensures.value ∙ (λ i. kinds.Rebuttal ch.r ch.k record { 0 = n } (seed_is i) (bytes_is i)) in
    let key_is = c.in_ok-sealed.ensures.signed ∙ ap (λ t. record c.self.inside.key { signed = v.signed ++ t ∷ [] }) statement_is in
    let unspent = c.if-self.false in
    let answered_is : c.push_reserved.new.self.items ≡ v.answered ++ a ∷ [] = c.push_reserved.ensures.items ∙ ap (λ l. l ++ a ∷ []) c.reserve.ensures.items in
    let leaf : length v.signed < leaf_count v.who.key = omega (arith, c.left.ensures.count, c.if-left-eq0.false) in
    let said_is : c.index.result.now ≡ said = c.index.ensures ∙ get_or_from_slice_get ch.shown.items n said c.index.result.now both.1.there in
    let is : IsSaid said = subst IsSaid said_is c.bytes.ensures.said in
    let pads = both.0.asked.opened.1.each n said both.1.there in
    let sealed : c.in_ok-sealed.sealed.items ≡ sealed_as_client v.who (length v.signed) s =
    c.in_ok-sealed.ensures.sealed ∙ (λ i. sealed_in v.who.digest (keeps.signer i) v.who.key (length v.signed) (statement_is i)) in
    let within_v = subst (λ (w : ClientView). IsIn roster w.who) (sym c.self.view_is) within_now in
    let under : IsUnder roster said = subst (IsUnder roster) (get_or_from_slice_get ch.shown.items n said said both.1.there) (all n said within_shown) in
    let short : length c.of-envelope.result ≤ MAX_CARRIED_BYTES = omega (arith, ap length bytes_is, said_short said ch.r ch.k pads.0 is pads.2) in
    let can : CanSign (Client v.who.me) s = subst (λ t. CanSign (Client v.who.me) t) statement_is (c.rebuttal_of-rebuttal.ensures.fits c.self.inside.me (search rules) short) in
    let new : ClientView = record v { answered = v.answered ++ a ∷ []; signed = v.signed ++ s ∷ [] } in
    let rebutted : IsRebutted v ch c.in_ok-sealed.sealed.items new = record { challenged = both.0; server = n; false_bit = both.1; leaf = leaf; fits = can; sealed = sealed; kept = refl } in
    subst (λ (w : ClientView). IsGoodRebuttal roster w.who.me c.in_ok-sealed.sealed.items) c.self.view_is
    (good_so roster v new ch c.in_ok-sealed.sealed.items keeps.client within_v rebutted is under)
