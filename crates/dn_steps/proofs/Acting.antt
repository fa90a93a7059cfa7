-- What the log becomes where a server's acts are carried out.
use Rattle.std.proofs.Common.{◌≡◌, ℕ, ◌<◌, List, [], ◌∷◌, ◌++◌, length, refl, sym, ap, subst, ◌∙◌, inl, inr, Bool, true, false}
use Rattle.std.specs.Prelude.{Contains, ◌⊎◌, Option, Some}
use Rattle.std.proofs.lemmas.Option.{same_Some}
use Rattle.std.proofs.lemmas.List.Elements.{Contains-append_left, Contains-append_right, Contains-append_cases}
use Rattle.dn_wire.specs.declared.ids.Member.{Member}
use Rattle.dn_wire.specs.declared.ids.Member.TheVariants as members
use Rattle.dn_wire.specs.declared.ids.ServerId.{ServerId}
use Rattle.dn_wire.specs.declared.ids.Round.{Round}
use Rattle.dn_cert.proofs.Orders.{here, later, nothing, first_or_later}
use Rattle.dn_server.specs.declared.act.Act.{Act}
use Rattle.dn_server.specs.declared.act.Act.TheVariants as acts
use Rattle.dn_report.specs.declared.outcome.Outcome.{Outcome}
use Rattle.dn_report.specs.declared.outcome.Outcome.TheVariants as outcomes
use Rattle.dn_state.specs.Parts.{PartsView}
use Rattle.dn_state.specs.Words.{spoil_word_of}
use Rattle.dn_state.specs.Doing.{own}
use Rattle.dn_state.specs.Putting.{Puts}
use Rattle.dn_state.specs.Acting.{Acts, line_of}
use Rattle.dn_headline.specs.Group.{GroupView}
use Rattle.dn_headline.specs.Log.{Log, Message, Put, message_of, actor_after, with_outcome, with_outcomes, AreNumbered}
use Rattle.dn_steps.specs.Fitting.{FitsLog}
use Rattle.dn_steps.proofs.Places.{no_more, both_ways, only}
use Rattle.dn_steps.proofs.Sending.{put_of, message_from, IsSentOrLost, flying_were_sent}
use Rattle.dn_steps.proofs.Putting.{PutsSo, GoesOrIsOther, puts_so}
use Rattle.dn_steps.proofs.PutLines.{puts_lines, puts_keep_members}
use Rattle.dn_steps.proofs.Resting.{SameMembers, same_members}
use Rattle.dn_steps.proofs.Runs.{is_quiet, is_of_put, unput_lines}
use Rattle.dn_steps.proofs.Taking.{IsPlain}

-- ---- lines after lines

-- who puts after some lines
unfoldable pub actors_after : Member → List Outcome → Member
actors_after actor [] = actor
actors_after actor (o ∷ os) = actors_after (actor_after actor o) os

pub outcomes_after : (own : Bool) (actor : Member) (log : Log) (os more : List Outcome)
    → with_outcomes own actor log (os ++ more) ≡ with_outcomes own (actors_after actor os) (with_outcomes own actor log os) more
unfolding with_outcomes actors_after
outcomes_after own actor log [] more = refl
outcomes_after own actor log (o ∷ os) more = outcomes_after own (actor_after actor o) (with_outcome own actor log o) os more

pub numbered_after : (own : Bool) (actor : Member) (log : Log) (os more : List Outcome) → AreNumbered own actor log os
    → AreNumbered own (actors_after actor os) (with_outcomes own actor log os) more → AreNumbered own actor log (os ++ more)
unfolding with_outcomes actors_after
numbered_after own actor log [] more first rest = rest
numbered_after own actor log (o ∷ os) more first rest = (first.0, numbered_after own (actor_after actor o) (with_outcome own actor log o) os more first.1 rest)

pub actors_both : (actor : Member) (os more : List Outcome) → actors_after actor (os ++ more) ≡ actors_after (actors_after actor os) more
unfolding actors_after
actors_both actor [] more = refl
actors_both actor (o ∷ os) more = actors_both (actor_after actor o) os more

-- ---- acts

-- the line of an act that isn't of a put
abbrev pub line_for : ServerId → Round → Act → Option Outcome
line_for j last (acts.Certified e) = Some (outcomes.Certified j e.body.r)
line_for j last a = line_of j last a

-- The log after the acts: its numbers are right, it fits the parts, what is put newly are the server's posts, each post was put, and each of its
-- messages is in flight or lost; and a line tells of what is put, or of an act, or nothing of servers, and each act's line is told.
pub record ActsSo (g : GroupView) (j : ServerId) (last : Round) (did : List Act) (log : Log) (old new : PartsView) (lines : List Outcome) : Type 0 where
  pub numbered : AreNumbered true (members.Server j) log lines
  pub fits : FitsLog g (with_outcomes true (members.Server j) log lines) new
  pub same : SameMembers old new
  pub more : List Put
  pub puts : (with_outcomes true (members.Server j) log lines).puts ≡ log.puts ++ more
  pub each : (p : Put) → Contains more p → (to : List Member) × (bytes : List ℕ) × Contains did (acts.Post to bytes) × (put_of true (members.Server j) bytes ≡ p)
  pub put : (to : List Member) (bytes : List ℕ) → Contains did (acts.Post to bytes)
      → (p : Put) × Contains (with_outcomes true (members.Server j) log lines).puts p × (p.bytes ≡ bytes)
  pub fates : (to : List Member) (bytes : List ℕ) (m : Member) → Contains did (acts.Post to bytes) → Contains to m
      → IsSentOrLost (with_outcomes true (members.Server j) log lines) (message_from true (members.Server j) bytes m)
  pub delivered : (with_outcomes true (members.Server j) log lines).delivered ≡ log.delivered
  pub sent : (id : ℕ) → id < length log.sent
      → (id < length (with_outcomes true (members.Server j) log lines).sent) × (message_of (with_outcomes true (members.Server j) log lines) id ≡ message_of log id)
  pub flies : (id : ℕ) → Contains log.flight id → Contains (with_outcomes true (members.Server j) log lines).flight id
  pub lost : (m : Message) → Contains log.lost m → Contains (with_outcomes true (members.Server j) log lines).lost m
  pub line : (o : Outcome) → Contains lines o → (is_of_put o ≡ true) ⊎ (((a : Act) × Contains did a × (line_for j last a ≡ Some o)) ⊎ IsPlain o)
  pub told : (a : Act) (o : Outcome) → Contains did a → line_for j last a ≡ Some o → Contains lines o
  pub actor : actors_after (members.Server j) lines ≡ members.Server j

-- ---- no act

pub no_act : (g : GroupView) (j : ServerId) (last : Round) (log : Log) (old : PartsView) → FitsLog g log old → ActsSo g j last [] log old old []
unfolding with_outcomes actors_after
no_act g j last log old fits = record {
  numbered = tt;
  fits = fits;
  same = same_members old;
  more = [];
  puts = no_more log.puts;
  each = λ p h. absurd (nothing p h);
  put = λ to bytes h. absurd (nothing _ h);
  fates = λ to bytes m h r. absurd (nothing _ h);
  delivered = refl;
  sent = λ id lt. (lt, refl);
  flies = λ id h. h;
  lost = λ m h. h;
  line = λ o h. absurd (nothing o h);
  told = λ a o h e. absurd (nothing a h);
  actor = refl;
}

-- lines that tell nothing of servers don't change who puts

quiet_stays : (actor : Member) (o : Outcome) → is_quiet o ≡ true → actor_after actor o ≡ actor
quiet_stays actor (outcomes.Closed j r count) e = absurd cc
quiet_stays actor _ e = refl

pub quiet_stay : (actor : Member) (lines : List Outcome) → ((o : Outcome) → Contains lines o → is_quiet o ≡ true) → actors_after actor lines ≡ actor
unfolding actors_after
quiet_stay actor [] quiet = refl
quiet_stay actor (o ∷ os) quiet =
    subst (λ (a : Member). actors_after a os ≡ actor) (sym (quiet_stays actor o (quiet o (here o os)))) (quiet_stay actor os (λ x h. quiet x (later o os x h)))

pub certified_first : (j : ServerId) (r : Round) (lines : List Outcome) → actors_after (members.Server j) (outcomes.Certified j r ∷ lines) ≡ actors_after (members.Server j) lines
unfolding actors_after
certified_first j r lines = refl

-- no act, and a line that tells nothing of servers
pub plain_so : (g : GroupView) (j : ServerId) (last : Round) (line : Outcome) (log : Log) (old new : PartsView) (lines : List Outcome) → FitsLog g log old → IsPlain line
    → new ≡ old → lines ≡ line ∷ [] → ActsSo g j last [] log old new lines
unfolding actors_after
plain_so g j last line log old new lines fits plain same is =
    let un = unput_lines true (members.Server j) log (line ∷ []) (λ x h. ap is_of_put (sym (only line x h)) ∙ plain.unput) in
    let at : with_outcomes true (members.Server j) log (line ∷ []) ≡ log = un.0 in
    subst (ActsSo g j last [] log old new) (sym is) (subst (λ (z : PartsView). ActsSo g j last [] log old z (line ∷ [])) (sym same) (record {
      numbered = un.1;
      fits = subst (λ (l : Log). FitsLog g l old) (sym at) fits;
      same = same_members old;
      more = [];
      puts = ap (λ (l : Log). l.puts) at ∙ no_more log.puts;
      each = λ p h. absurd (nothing p h);
      put = λ to bytes h. absurd (nothing _ h);
      fates = λ to bytes m h r. absurd (nothing _ h);
      delivered = ap (λ (l : Log). l.delivered) at;
      sent = λ id lt. (subst (λ (l : Log). id < length l.sent) (sym at) lt, ap (λ (l : Log). message_of l id) at);
      flies = λ id h. subst (λ (l : Log). Contains l.flight id) (sym at) h;
      lost = λ m h. subst (λ (l : Log). Contains l.lost m) (sym at) h;
      line = λ o h. inr (inr (subst IsPlain (only line o h) plain));
      told = λ a o h e. absurd (nothing a h);
      actor = quiet_stay (members.Server j) (line ∷ []) (λ o h. ap is_quiet (sym (only line o h)) ∙ plain.quiet);
    }))

-- ---- one act

-- lines of puts don't change who puts
put_stays : (actor : Member) (o : Outcome) → is_of_put o ≡ true → actor_after actor o ≡ actor
put_stays actor (outcomes.Post payload by bytes) e = refl
put_stays actor (outcomes.Sent id payload to) e = refl
put_stays actor (outcomes.Full payload to) e = refl
put_stays actor _ e = absurd cc

pub puts_stay : (actor : Member) (lines : List Outcome) → ((o : Outcome) → Contains lines o → is_of_put o ≡ true) → actors_after actor lines ≡ actor
unfolding actors_after
puts_stay actor [] puts = refl
puts_stay actor (o ∷ os) puts =
    subst (λ (a : Member). actors_after a os ≡ actor) (sym (put_stays actor o (puts o (here o os)))) (puts_stay actor os (λ x h. puts x (later o os x h)))

pub post_so : (g : GroupView) (j : ServerId) (last : Round) (to : List Member) (bytes : List ℕ) (log : Log) (old new : PartsView) (lines : List Outcome) → FitsLog g log old
    → old.payloads.roster ≡ g.roster → GoesOrIsOther g.roster bytes to → Puts old (own (members.Server j)) to bytes new lines
    → ActsSo g j last (acts.Post to bytes ∷ []) log old new lines
post_so g j last to bytes log old new lines fits opens goes puts =
    let so : PutsSo g true (members.Server j) to bytes log new lines = puts_so g log old new (own (members.Server j)) to bytes lines fits opens goes puts in
    let of_put = puts_lines old new (own (members.Server j)) to bytes lines puts in
    record {
      numbered = so.numbered;
      fits = so.fits;
      same = puts_keep_members old new (own (members.Server j)) to bytes lines puts;
      more = so.more;
      puts = so.puts;
      each = λ p h. (to, bytes, here (acts.Post to bytes) [], so.each p h);
      put = λ r b h. let same = post_same to r bytes b (only (acts.Post to bytes) (acts.Post r b) h) in (so.put.0, so.put.1, so.put.2 ∙ same.1);
      fates = λ r b m h there.
          let same = post_same to r bytes b (only (acts.Post to bytes) (acts.Post r b) h) in
          subst (λ (z : List ℕ). IsSentOrLost (with_outcomes true (members.Server j) log lines) (message_from true (members.Server j) z m)) same.1
          (so.fates m (subst (λ (z : List Member). Contains z m) (sym same.0) there));
      delivered = so.delivered;
      sent = so.sent;
      flies = so.flies;
      lost = so.lost;
      line = λ o h. inl (of_put o h);
      told = λ a o h e. no_line a o (only (acts.Post to bytes) a h) e;
      actor = puts_stay (members.Server j) lines of_put;
    }
  where
    post_same : (s r : List Member) (b c : List ℕ) → acts.Post s b ≡ acts.Post r c → (s ≡ r) × (b ≡ c)
    post_same s r b c e = (cc, cc)

    no_line : (a : Act) (o : Outcome) → acts.Post to bytes ≡ a → line_for j last a ≡ Some o → Contains lines o
    no_line a o is e = let x : line_for j last (acts.Post to bytes) ≡ Some o = ap (line_for j last) is ∙ e in absurd cc

-- an act that has a line and puts nothing
pub line_so : (g : GroupView) (j : ServerId) (last : Round) (a : Act) (o : Outcome) (log : Log) (old new : PartsView) (lines : List Outcome) → FitsLog g log old
    → line_for j last a ≡ Some o → is_of_put o ≡ false → actor_after (members.Server j) o ≡ members.Server j → ((to : List Member) (bytes : List ℕ) → a ≡ acts.Post to bytes → ⊥)
    → new ≡ old → lines ≡ o ∷ [] → ActsSo g j last (a ∷ []) log old new lines
unfolding actors_after
line_so g j last a o log old new lines fits has unput stays no_post same told =
    let un = unput_lines true (members.Server j) log (o ∷ []) (λ x h. ap is_of_put (sym (only o x h)) ∙ unput) in
    let is : with_outcomes true (members.Server j) log (o ∷ []) ≡ log = un.0 in
    subst (ActsSo g j last (a ∷ []) log old new) (sym told) (subst (λ (z : PartsView). ActsSo g j last (a ∷ []) log old z (o ∷ [])) (sym same) (record {
      numbered = un.1;
      fits = subst (λ (l : Log). FitsLog g l old) (sym is) fits;
      same = same_members old;
      more = [];
      puts = ap (λ (l : Log). l.puts) is ∙ no_more log.puts;
      each = λ p h. absurd (nothing p h);
      put = λ to bytes h. absurd (no_post to bytes (only a (acts.Post to bytes) h));
      fates = λ to bytes m h r. absurd (no_post to bytes (only a (acts.Post to bytes) h));
      delivered = ap (λ (l : Log). l.delivered) is;
      sent = λ id lt. (subst (λ (l : Log). id < length l.sent) (sym is) lt, ap (λ (l : Log). message_of l id) is);
      flies = λ id h. subst (λ (l : Log). Contains l.flight id) (sym is) h;
      lost = λ m h. subst (λ (l : Log). Contains l.lost m) (sym is) h;
      line = λ x h. inr (inl (a, here a [], has ∙ ap Some (only o x h)));
      told = λ b x h e. subst (Contains (o ∷ [])) (same_Some o x (sym has ∙ ap (line_for j last) (only a b h) ∙ e)) (here o []);
      actor = stays;
    }))

-- the act puts nothing, and is no certificate
abbrev pub IsTelling : Act → Type 0
IsTelling (acts.Post to bytes) = ⊥
IsTelling (acts.Certified e) = ⊥
IsTelling _ = Unit {0}

pub tells_so : (g : GroupView) (j : ServerId) (last : Round) (a : Act) (log : Log) (old new : PartsView) (lines : List Outcome) → FitsLog g log old → IsTelling a
    → Acts j last a old new lines → ActsSo g j last (a ∷ []) log old new lines
tells_so g j last (acts.Post to bytes) log old new lines fits is does = absurd is
tells_so g j last (acts.Certified e) log old new lines fits is does = absurd is
tells_so g j last (acts.Opened r prev) log old new lines fits is does =
    line_so g j last (acts.Opened r prev) (outcomes.Opened j r prev) log old new lines fits refl refl refl (λ to bytes e. absurd cc) does.0 does.1
tells_so g j last (acts.Told client r told) log old new lines fits is does =
    line_so g j last (acts.Told client r told) (outcomes.Told client j r told) log old new lines fits refl refl refl (λ to bytes e. absurd cc) does.0 does.1
tells_so g j last (acts.Closed r count) log old new lines fits is does =
    line_so g j last (acts.Closed r count) (outcomes.Closed j r count) log old new lines fits refl refl refl (λ to bytes e. absurd cc) does.0 does.1
tells_so g j last (acts.Spoiled by reason kept came) log old new lines fits is does =
    line_so g j last (acts.Spoiled by reason kept came) (outcomes.Spoiled j last by (spoil_word_of reason)) log old new lines fits refl refl refl (λ to bytes e. absurd cc) does.0 does.1
tells_so g j last (acts.Held r) log old new lines fits is does =
    line_so g j last (acts.Held r) (outcomes.Held (members.Server j) r) log old new lines fits refl refl refl (λ to bytes e. absurd cc) does.0 does.1
tells_so g j last acts.Abandoned log old new lines fits is does =
    line_so g j last acts.Abandoned (outcomes.Abandoned j last) log old new lines fits refl refl refl (λ to bytes e. absurd cc) does.0 does.1

-- ---- one after the other

both_keep : (a b c : PartsView) → SameMembers a b → SameMembers b c → SameMembers a c
both_keep a b c f s = record {
  roster = s.roster ∙ f.roster;
  opens = s.opens ∙ f.opens;
  group = s.group ∙ f.group;
  clients = s.clients ∙ f.clients;
  servers = s.servers ∙ f.servers;
  left = s.left ∙ f.left;
}

module _ (g : GroupView) (j : ServerId) (last : Round) (front did : List Act) (log : Log) (old between new : PartsView) (first rest : List Outcome)
    (one : ActsSo g j last front log old between first) (two : ActsSo g j last did (with_outcomes true (members.Server j) log first) between new rest) where
  abbrev mid : Log
  mid = with_outcomes true (members.Server j) log first

  abbrev end : Log
  end = with_outcomes true (members.Server j) mid rest

  end_is : with_outcomes true (members.Server j) log (first ++ rest) ≡ end
  end_is = outcomes_after true (members.Server j) log first rest ∙ ap (λ (m : Member). with_outcomes true m mid rest) one.actor

  fate_on : (m : Message) → IsSentOrLost mid m → IsSentOrLost end m
  fate_on m fate =
      elim fate [
        | inl lost ↦ inl (two.lost m lost)
        | inr flies ↦ inr (flies.0, two.flies flies.0 flies.1, (two.sent flies.0 (flying_were_sent mid between.flight one.fits.flight flies.0 flies.1)).1 ∙ flies.2)
      ]

  pub both_acts : ActsSo g j last (front ++ did) log old new (first ++ rest)
  both_acts = record {
    numbered = numbered_after true (members.Server j) log first rest one.numbered (subst (λ (m : Member). AreNumbered true m mid rest) (sym one.actor) two.numbered);
    fits = subst (λ (l : Log). FitsLog g l new) (sym end_is) two.fits;
    same = both_keep old between new one.same two.same;
    more = one.more ++ two.more;
    puts = ap (λ (l : Log). l.puts) end_is ∙ two.puts ∙ ap (λ (ps : List Put). ps ++ two.more) one.puts ∙ both_ways log.puts one.more two.more;
    each = λ p h. elim (Contains-append_cases one.more two.more p h) [
      | inl was ↦ let x = one.each p was in (x.0, x.1, Contains-append_left front did (acts.Post x.0 x.1) x.2, x.3)
      | inr now ↦ let x = two.each p now in (x.0, x.1, Contains-append_right front did (acts.Post x.0 x.1) x.2, x.3)
    ];
    put = λ to bytes h. elim (Contains-append_cases front did (acts.Post to bytes) h) [
      | inl e ↦
          let p = one.put to bytes e in
          (p.0, subst (λ (l : Log). Contains l.puts p.0) (sym end_is) (subst (λ (ps : List Put). Contains ps p.0) (sym two.puts) (Contains-append_left mid.puts two.more p.0 p.1)), p.2)
      | inr behind ↦ let p = two.put to bytes behind in (p.0, subst (λ (l : Log). Contains l.puts p.0) (sym end_is) p.1, p.2)
    ];
    fates = λ to bytes m h there. subst (λ (l : Log). IsSentOrLost l (message_from true (members.Server j) bytes m)) (sym end_is)
        (elim (Contains-append_cases front did (acts.Post to bytes) h) [
          | inl e ↦ fate_on (message_from true (members.Server j) bytes m) (one.fates to bytes m e there)
          | inr behind ↦ two.fates to bytes m behind there
        ]);
    delivered = ap (λ (l : Log). l.delivered) end_is ∙ two.delivered ∙ one.delivered;
    sent = λ id lt.
        let f = one.sent id lt in
        let s = two.sent id f.0 in
        (subst (λ (l : Log). id < length l.sent) (sym end_is) s.0, ap (λ (l : Log). message_of l id) end_is ∙ s.1 ∙ f.1);
    flies = λ id h. subst (λ (l : Log). Contains l.flight id) (sym end_is) (two.flies id (one.flies id h));
    lost = λ m h. subst (λ (l : Log). Contains l.lost m) (sym end_is) (two.lost m (one.lost m h));
    line = λ o h. elim (Contains-append_cases first rest o h) [
      | inl f ↦ elim (one.line o f) [ inl p ↦ inl p | inr x ↦ inr (elim x [ inl y ↦ inl (y.0, Contains-append_left front did y.0 y.1, y.2) | inr plain ↦ inr plain ]) ]
      | inr r ↦ elim (two.line o r) [ inl p ↦ inl p | inr x ↦ inr (elim x [ inl y ↦ inl (y.0, Contains-append_right front did y.0 y.1, y.2) | inr plain ↦ inr plain ]) ]
    ];
    told = λ x o h e. elim (Contains-append_cases front did x h) [
      | inl is ↦ Contains-append_left first rest o (one.told x o is e)
      | inr behind ↦ Contains-append_right first rest o (two.told x o behind e)
    ];
    actor = actors_both (members.Server j) first rest ∙ ap (λ (m : Member). actors_after m rest) one.actor ∙ two.actor;
  }
