use Rattle.std.proofs.Common.{◌≡◌, ◌<◌, ◌++◌, [], ap, ℕ, length, refl, sym, subst, ◌∙◌, inl, inr, arith, rules}
use Rattle.std.proofs.lemmas.Bool.{false≢true}
use Rattle.std.proofs.lemmas.List.{append-nil}
use Rattle.dn_verify.specs.Kept.{course_of}
use Rattle.dn_verify.specs.Known.{IsGiven}
use Rattle.dn_verify.specs.Payloads.{body_in, carried_at, heard_put}
use Rattle.dn_verify.specs.Rules.{IsProperPost}
use Rattle.dn_verify.proofs.PostLemmas.{next_payload, not_there}
use Rattle.dn_verify.proofs.outcomes.post.Goals as goal
use Rattle.dn_verify.proofs.outcomes.post.Goals.{then-number-payload-via-then-number-payload, then-number-payload-via-else-number-payload+then-payload-contents}

pub returns-then-number-payload-clause-rule : goal.returns-then-number-payload-clause-rule
returns-then-number-payload-clause-rule c = λ report are same.
    inl (
      refl,
      λ next. elim c.then-number-payload.branch [
        | then-number-payload-via-then-number-payload w ↦
            let other : c.args.number ≡ c.args.course.now.posted → ⊥ = search rules in
            other next.next
        | then-number-payload-via-else-number-payload+then-payload-contents w ↦
            not_there report c.args.contents.now are (course_of c.args.course.now) c.args.number (omega arith) next
      ],
    )

pub returns-then-proper-clause-rule : goal.returns-then-proper-clause-rule
returns-then-proper-clause-rule c = λ report are same.
    let at : c.args.number ≡ c.args.course.now.posted = search rules in
    let within : c.args.course.now.posted < length c.args.contents.now = omega arith in (
      next_payload report c.args.contents.now are (course_of c.args.course.now) c.args.number at within,
      subst (λ (n : ℕ). IsProperPost report c.args.course.now.scene n c.args.by) (sym at) ((c.is_proper_post-proper.ensures report are same).0 c.if-proper.true),
    )

pub returns-else-proper-clause-rule : goal.returns-else-proper-clause-rule
returns-else-proper-clause-rule c = λ report are same.
    let at : c.args.number ≡ c.args.course.now.posted = search rules in
    let within : c.args.course.now.posted < length c.args.contents.now = omega arith in
    inr (
      refl,
      next_payload report c.args.contents.now are (course_of c.args.course.now) c.args.number at within,
      λ proper.
          false≢true (sym c.if-proper.false ∙ (c.is_proper_post-proper.ensures report are same).1
          (subst (λ (n : ℕ). IsProperPost report c.args.course.now.scene n c.args.by) at proper)),
    )

pub returns-then-proper-clause-adds : goal.returns-then-proper-clause-adds
returns-then-proper-clause-adds c = λ report behind bytes are.
    let at : c.args.number ≡ c.args.course.now.posted = search rules in
    record {
      chain = subst (λ (n : ℕ). IsGiven c.args.fold.now.chain (body_in (carried_at report n)) c.give_payload.new.chain) (sym at) (c.in_ok-give_payload.ensures report are);
      reached = refl;
      heard = c.in_ok-hear_post.ensures.heard report are
          ∙ ap (λ (n : ℕ). c.args.heard.now.items ++ heard_put (carried_at report n)) (sym at);
      opened = [];
      opens = (refl, refl);
      due = sym (append-nil c.args.fold.now.due.items);
    }
