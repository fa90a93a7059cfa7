use Rattle.std.proofs.Common.{ℕ, [], refl, sym, subst}
use Rattle.std.proofs.lemmas.List.{append-nil}
use Rattle.dn_verify.specs.Known.{IsGiven}
use Rattle.dn_verify.specs.Payloads.{body_in, carried_at}
use Rattle.dn_verify.proofs.KnownLemmas.{payload_is}
use Rattle.dn_verify.proofs.outcomes.sent.Goals as goal

pub returns-clause-adds : goal.returns-clause-adds
returns-clause-adds c = λ report behind said are.
    let at = payload_is c.args.number c.args.course.now.posted c.in-Some.payload c.in-Some.ensures in
    record {
      chain = subst (λ (n : ℕ). IsGiven c.args.fold.now.chain (body_in (carried_at report n)) c.give_payload.new.chain) at (c.in_ok-give_payload.ensures report are);
      reached = refl;
      heard = sym (append-nil said);
      opened = [];
      opens = (refl, refl);
      due = sym (append-nil c.args.fold.now.due.items);
    }
