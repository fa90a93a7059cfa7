use Rattle.std.proofs.Common.{◌≡◌, ◌++◌, ◌∷◌, [], List, true, false, refl, sym, ap, ◌∙◌, subst}
use Rattle.std.specs.Prelude.{Contains, Some}
use Rattle.std.proofs.lemmas.Option.{same_Some}
use Rattle.std.proofs.lemmas.Result.{IfOk-weaker}
use Rattle.dn_seal.specs.Said.{SaidView}
use Rattle.dn_server.specs.declared.act.Act.{Act}
use Rattle.dn_server.specs.declared.past.Past.{Past}
use Rattle.dn_server.specs.Parts.{live}
use Rattle.dn_server.specs.Server.{ServerView, itself, others_of, past_of, post_next}
use Rattle.dn_openings.specs.Accusing.{SignsAndKeeps, Shows, first_of_round, again, has_opened, shown_of, post_again}
use Rattle.dn_openings.proofs.OpenLemmas.{ok_both}
use Rattle.dn_openings.proofs.opening.show.Goals as goal

pub returns-then-not-has_opened : goal.returns-then-not-has_opened
returns-then-not-has_opened c =
    let v : ServerView = live c.args.parts.now in
    let after : ServerView = live c.sign_shown.new.parts in
    let lacks : has_opened v c.args.r ≡ false = sym c.has_opened.ensures ∙ c.if-not-has_opened.true in
    IfOk-weaker c.sign_shown.result
    (λ u. ((past : Past) → past_of v.pasts c.args.r.0 ≡ Some past → SignsAndKeeps v (shown_of past) after)
    × ((past : Past) → past_of v.pasts c.args.r.0 ≡ Some past
    → c.sign_shown.new.acts.items ≡ c.args.acts.now.items ++ post_next v (others_of v.seat) (shown_of past) ∷ []))
    (λ u. (past : Past) → past_of v.pasts c.args.r.0 ≡ Some past
    → (did : List Act) × (c.sign_shown.new.acts.items ≡ c.args.acts.now.items ++ did) × Shows v past did after)
    (λ u both past kept.
    let same : c.requires.past ≡ past = same_Some c.requires.past past (sym c.requires.kept ∙ kept) in
    let round : c.args.r ≡ past.body.r = sym c.requires.round ∙ ap (λ (p : Past). p.body.r) same in (
      post_next v (others_of v.seat) (shown_of past) ∷ [],
      both.1 past kept,
      first_of_round (subst (λ r. has_opened v r ≡ false) round lacks) (both.0 past kept) refl,
    ))
    (ok_both (λ u. (past : Past) → past_of v.pasts c.args.r.0 ≡ Some past → SignsAndKeeps v (shown_of past) after)
    (λ u. (past : Past) → past_of v.pasts c.args.r.0 ≡ Some past
    → c.sign_shown.new.acts.items ≡ c.args.acts.now.items ++ post_next v (others_of v.seat) (shown_of past) ∷ [])
    c.sign_shown.result c.sign_shown.ensures.signed c.sign_shown.ensures.posted)

pub returns : goal.returns
returns c =
    let v : ServerView = live c.args.parts.now in
    let mine : Past = c.in-Some.past.now in
    let has : has_opened v c.args.r ≡ true = sym c.has_opened.ensures ∙ c.if-not-has_opened.false in
    IfOk-weaker c.post_shown.result
    (λ u. (said : SaidView) × Contains v.evidence said × (said.signer ≡ itself v) × (said.statement ≡ shown_of mine)
    × (c.post_shown.new.acts.items ≡ c.args.acts.now.items ++ post_again v said ∷ []))
    (λ u. (past : Past) → past_of v.pasts c.args.r.0 ≡ Some past
    → (did : List Act) × (c.post_shown.new.acts.items ≡ c.args.acts.now.items ++ did) × Shows v past did v)
    (λ u posted past kept.
    let here : mine ≡ past = same_Some mine past (sym c.in-Some.ensures ∙ kept) in
    let same : c.requires.past ≡ past = same_Some c.requires.past past (sym c.requires.kept ∙ kept) in
    let round : c.args.r ≡ past.body.r = sym c.requires.round ∙ ap (λ (p : Past). p.body.r) same in (
      post_again v posted.0 ∷ [],
      posted.4,
      again posted.0 (subst (λ r. has_opened v r ≡ true) round has) posted.1 posted.2 (posted.3 ∙ ap (λ (p : Past). shown_of p) here) refl refl,
    ))
    c.post_shown.ensures
