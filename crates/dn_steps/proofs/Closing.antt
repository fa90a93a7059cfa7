-- A server's window closes, and it goes on as far as it can.
use Rattle.std.proofs.Common.{◌≡◌, ◌≢◌, ℕ, ◌<◌, ◌≤◌, List, [], ◌∷◌, ◌++◌, length, refl, sym, ap, subst, ◌∙◌, inl, inr, true, false}
use Rattle.std.specs.Prelude.{Bool, Contains, ◌⊎◌, not, ◌&&◌, nat_le, ◌+◌, Some, cond}
use Rattle.std.proofs.lemmas.List.Elements.{Contains-append_left, Contains-append_right}
use Rattle.dn_wire.specs.declared.ids.ServerId.{ServerId}
use Rattle.dn_wire.specs.declared.ids.Round.{Round}
use Rattle.dn_wire.specs.declared.ids.SignerId.TheVariants.{Server}
use Rattle.dn_lms.specs.Signature.{public_key}
use Rattle.dn_record_types.specs.declared.payload.Payload.TheVariants as payloads
use Rattle.dn_record_types.specs.declared.statement.Statement.{Statement}
use Rattle.dn_record_types.specs.declared.statement.Statement.TheVariants as kinds
use Rattle.dn_records.specs.Records.{payload_bytes, kind_byte, statement_bytes}
use Rattle.dn_roster.specs.Roster.{RosterView, IsRoster, key_of}
use Rattle.dn_seal.specs.Said.{SaidView}
use Rattle.dn_cert.specs.Certificate.{CertificateView}
use Rattle.dn_cert.proofs.Orders.{here, nothing, first_or_later}
use Rattle.dn_window.specs.Window.{WindowState, ticked, is_due}
use Rattle.dn_server.specs.declared.act.Act.{Act}
use Rattle.dn_server.specs.declared.act.Act.TheVariants as acts
use Rattle.dn_server.specs.declared.act.SpoilReason.{SpoilReason}
use Rattle.dn_server.specs.declared.act.SpoilReason.TheVariants as reasons
use Rattle.dn_server.specs.declared.run.Stage.TheVariants as stages
use Rattle.dn_server.specs.Justified.{Seat}
use Rattle.dn_server.specs.Keeping.{round_of}
use Rattle.dn_server.specs.Server.{ServerView, itself, servers_in, others_of, post_next, sealed_next, ended}
use Rattle.dn_rounds.specs.Going.{Steps, GoesOn, says, HasLeaf, Conflicts, spoiled_twice}
use Rattle.dn_exchange.specs.Closing.{Closes, inventory_of, with_window}
use Rattle.dn_exchange.specs.Closing.Closes.{lists, meets_other, finds_no_leaf}
use Rattle.dn_exchange.specs.Disciplined.{Disciplined, HasSaidNone, AreUnsaid}
use Rattle.dn_exchange.specs.Settled.{Settled, HasSigned}
use Rattle.dn_exchange.specs.Spoiling.{OwnBodiesAreDue}
use Rattle.dn_headline.specs.Group.{IsServer}
use Rattle.dn_headline.specs.Run.{RunView}
use Rattle.dn_headline.specs.Invariant.{seat_of}
use Rattle.dn_links.specs.Going.{KeepsRound, GoesBy}
use Rattle.dn_links.specs.Link.{IsLinked}
use Rattle.dn_links.proofs.Going.{says_by, spoils_by, steps_by, then_by}
use Rattle.dn_steps.specs.Openings.{KeepsOpenings}
use Rattle.dn_steps.specs.Tied.{IsServerTied}
use Rattle.dn_steps.proofs.Idle.{clash}
use Rattle.dn_steps.proofs.Places.{only, no_more}
use Rattle.dn_steps.proofs.OwnPuts.{plain_goes}
use Rattle.dn_steps.proofs.Carrying.{AreCarried}
use Rattle.dn_steps.proofs.Carrying.AreCarried.{nothing_is, posts, tells}
use Rattle.dn_steps.proofs.GoingSteps.{IsGoing, IsHeldBy, IsSpoilt, round_kept, forged_before, conflict_forged, steps_going, steps_certified, steps_spoiled, said_none_more, steps_open_none, opened_more}
use Rattle.dn_steps.proofs.InRound.{ActsInRound}
use Rattle.dn_steps.proofs.GoingInRound.{StartsAs, steps_carried, kept_round, spoils_so, in_round}

-- what a server does in its round, with what it signs, and that it can be carried out
pub record CallInRound (w : RunView) (j : ServerId) (c : ServerView) (did : List Act) (d : ServerView) : Type 0 where
  pub fresh : List Statement
  pub does : ActsInRound w j c did d fresh
  pub carried : AreCarried w.group.roster did

-- ---- a server whose window is open has signed nothing of the round

module _ (c : ServerView) (settled : Settled c) (open_window : c.run.window.closed ≡ false) where
  none_listed : HasSigned c 3 → ⊥
  none_listed h = clash c.run.window.closed (settled.inventory.0 h) open_window

  none_of : (kind : ℕ) → (HasSigned c kind → ⊥) → HasSaidNone c kind
  none_of kind none s h round is = none (s, h, is, round)

  none_committed : HasSigned c 4 → ⊥
  none_committed h = none_listed (settled.commit.0 h).0

  none_revealed : HasSigned c 5 → ⊥
  none_revealed h = none_committed (settled.reveal.0 h).0

  none_signed : HasSigned c 6 → ⊥
  none_signed h = elim (settled.sign.0 h) [ inl full ↦ none_revealed full.0 | inr thin ↦ none_listed thin.0 ]

  pub none_said : AreUnsaid stages.Collecting c
  none_said = (none_of 3 none_listed, none_of 4 none_committed, none_of 5 none_revealed, none_of 6 none_signed)

-- ---- the window closes

module _ (w : RunView) (j : ServerId) (c : ServerView) (within : IsServer w.group j) (is_roster : IsRoster w.group.roster) (tied : IsServerTied w j c)
    (open_window : c.run.window.closed ≡ false) (window : WindowState) (shut : window.closed ≡ true) where
  abbrev v : ServerView
  v = with_window c window

  abbrev due : Statement
  due = kinds.Inventory (inventory_of v.run)

  starts : StartsAs w c v
  starts = record {
    seat = refl;
    key = refl;
    chain = refl;
    signed = refl;
    evidence = refl;
    opened = refl;
    pasts = refl;
    r = refl;
    prev = refl;
    claims = refl;
    running = refl;
    closed = λ h. shut;
    keeps = λ said h. h;
    kept = λ said h. inl h;
  }

  keeps : KeepsRound v
  keeps = kept_round w j c v v tied.linked tied.key starts

  seat_is : v.seat ≡ seat_of w.group j
  seat_is = tied.linked.seat

  in_group : v.seat.number < servers_in v
  in_group = subst (λ (z : Seat). z.number < servers_in (record v { seat = z })) (sym seat_is) within

  some_clients : 1 ≤ length v.seat.roster.clients
  some_clients = subst (λ (z : Seat). 1 ≤ length z.roster.clients) (sym seat_is) is_roster.clients.0

  unsaid : AreUnsaid stages.Collecting c
  unsaid = none_said c (tied.settled (tied.disciplined.open_runs open_window)) open_window

  closing_is : (a : Act) → Contains (acts.Closed v.run.r v.run.window.count ∷ []) a → ((count : ℕ) × (a ≡ acts.Closed c.run.r count)) × (v.run.window.closed ≡ true)
  closing_is a h = ((v.run.window.count, sym (only (acts.Closed v.run.r v.run.window.count) a h)), shut)

  in_roster : (did : List Act) → AreCarried v.seat.roster did → AreCarried w.group.roster did
  in_roster did h = subst (λ (z : Seat). AreCarried z.roster did) seat_is h

  -- the inventory is signed, and the server goes on
  module _ (did rest : List Act) (d : ServerView) (leaf : HasLeaf v) (goes : GoesOn (says v (kinds.Inventory (inventory_of v.run)) stages.Listed v.run.sum) rest d)
      (is : did ≡ acts.Closed v.run.r v.run.window.count ∷ post_next v (others_of v.seat) (kinds.Inventory (inventory_of v.run)) ∷ rest) (disciplined : Disciplined d)
      (bodies_due : OwnBodiesAreDue d did) where
    abbrev post : Act
    post = post_next v (others_of v.seat) due

    abbrev mid : ServerView
    mid = says v due stages.Listed v.run.sum

    says_it : GoesBy v (post ∷ []) mid
    says_it = says_by v due stages.Listed v.run.sum v.pasts v.bend leaf refl

    keeps_mid : KeepsRound mid
    keeps_mid = round_kept v mid (post ∷ []) says_it keeps

    by : GoesBy v (post ∷ rest) d
    by = then_by v mid d (post ∷ []) rest says_it (steps_by mid rest d in_group goes.steps)

    unsaid_mid : AreUnsaid stages.Listed mid
    unsaid_mid = (
      said_none_more c mid due 4 refl refl (λ k. absurd cc) unsaid.1,
      said_none_more c mid due 5 refl refl (λ k. absurd cc) unsaid.2,
      said_none_more c mid due 6 refl refl (λ k. absurd cc) unsaid.3,
    )

    going : (a : Act) → Contains (post ∷ rest) a → IsGoing a
    going a h = elim (first_or_later post rest a h) [ inl e ↦ subst IsGoing e tt | inr behind ↦ steps_going mid d rest goes.steps a behind ]

    certified : (e : CertificateView) → Contains (post ∷ rest) (acts.Certified e) → IsHeldBy d v.run.r e
    certified e h = elim (first_or_later post rest (acts.Certified e) h) [ inl x ↦ absurd cc | inr behind ↦ steps_certified mid d rest in_group keeps_mid goes.steps e behind ]

    spoiled : (x : ServerId) (reason : SpoilReason) (kept came : List ℕ) → Contains (post ∷ rest) (acts.Spoiled x reason kept came) → IsSpoilt v reason x
    spoiled x reason kept came h =
        elim (first_or_later post rest (acts.Spoiled x reason kept came) h) [
          | inl e ↦ absurd cc
          | inr behind ↦ elim (steps_spoiled mid d rest in_group (λ on. unsaid_mid) keeps_mid goes.steps x reason kept came behind) [
            | inl body ↦ inl body
            | inr forged ↦ inr (forged_before v mid (post ∷ []) x says_it forged)
          ]
        ]

    pub lists_so : CallInRound w j c did d
    lists_so = subst (λ (as_did : List Act). CallInRound w j c as_did d) (sym is) (record {
      fresh = by.fresh;
      does = in_round w j c v d tied.linked tied.key starts (acts.Closed v.run.r v.run.window.count ∷ []) (post ∷ rest) by disciplined closing_is going certified
          (λ x reason kept came h. spoils_so w j c v d tied.linked tied.key starts x reason kept came (acts.Closed v.run.r v.run.window.count ∷ post ∷ rest) (spoiled x reason kept came h) (subst (OwnBodiesAreDue d) is bodies_due)
          (Contains-append_right (acts.Closed v.run.r v.run.window.count ∷ []) (post ∷ rest) (acts.Spoiled x reason kept came) h))
          (λ h. steps_open_none w.group.roster mid d rest goes.steps (opened_more w.group.roster c mid refl refl (λ r past e. e)
          (λ t at. Contains-append_left c.signed (due ∷ []) t at) h)) within;
      carried = in_roster _ (tells (acts.Closed v.run.r v.run.window.count) _ tt
          (posts (others_of v.seat) (payload_bytes (payloads.Plain (sealed_next v due))) rest (plain_goes v.seat.roster (sealed_next v due) (others_of v.seat))
          (steps_carried mid d rest in_group some_clients goes.steps)));
    })

  -- another inventory under its own number spoils the round
  meets_so : (did : List Act) (d : ServerView) (other : Statement) → Conflicts v due other
      → did ≡ acts.Closed v.run.r v.run.window.count ∷ spoiled_twice v.seat.number other due ∷ [] → d ≡ ended v → Disciplined d → OwnBodiesAreDue d did → CallInRound w j c did d
  meets_so did d other conflicts is same disciplined bodies_due =
      let spoiling = spoiled_twice v.seat.number other due in
      let by : GoesBy v (spoiling ∷ []) d = subst (GoesBy v (spoiling ∷ [])) (sym same) (spoils_by v (record { 0 = v.seat.number }) reasons.Twice (statement_bytes other) (statement_bytes due) v.bend) in
      subst (λ (as_did : List Act). CallInRound w j c as_did d) (sym is) (record {
        fresh = by.fresh;
        does = in_round w j c v d tied.linked tied.key starts (acts.Closed v.run.r v.run.window.count ∷ []) (spoiling ∷ []) by disciplined closing_is
            (λ a h. subst IsGoing (only spoiling a h) tt)
            (λ e h. absurd (not_certified e (only spoiling (acts.Certified e) h)))
            (λ x reason kept came h. spoils_so w j c v d tied.linked tied.key starts x reason kept came (acts.Closed v.run.r v.run.window.count ∷ spoiling ∷ [])
            (inr (conflict_forged v due other x conflicts unsaid.0 keeps (number_of x reason kept came (only spoiling (acts.Spoiled x reason kept came) h))))
            (subst (OwnBodiesAreDue d) is bodies_due) (Contains-append_right (acts.Closed v.run.r v.run.window.count ∷ []) (spoiling ∷ []) (acts.Spoiled x reason kept came) h))
            (λ h. subst (KeepsOpenings w.group.roster) (sym same) (record { evidence = h.evidence; opened = h.opened })) within;
        carried = in_roster _ (tells (acts.Closed v.run.r v.run.window.count) _ tt (tells spoiling [] tt nothing_is));
      })
    where
      not_certified : (e : CertificateView) → spoiled_twice v.seat.number other due ≡ acts.Certified e → ⊥
      not_certified e x = absurd cc

      number_of : (x : ServerId) (reason : SpoilReason) (kept came : List ℕ) → spoiled_twice v.seat.number other due ≡ acts.Spoiled x reason kept came → x.0 ≡ v.seat.number
      number_of x reason kept came e = cc

  pub closes_so : (did : List Act) (d : ServerView) → Closes (with_window c window) did d → Disciplined d → OwnBodiesAreDue d did → CallInRound w j c did d
  closes_so did d (lists rest free leaf goes is) disciplined bodies_due = lists_so did rest d leaf goes is disciplined bodies_due
  closes_so did d (meets_other other conflicts is same) disciplined bodies_due = meets_so did d other conflicts is same disciplined bodies_due
  closes_so did d (finds_no_leaf free none bent is same) disciplined bodies_due = absurd (clash c.bent bent tied.straight)

-- ---- the window stays open, or stays closed

-- a core of which only the window is another, and nothing is done
pub window_so : (w : RunView) (j : ServerId) (c : ServerView) (window : WindowState) → (c.run.window.closed ≡ true → window.closed ≡ true) → CallInRound w j c [] (with_window c window)
window_so w j c window closed = record {
  fresh = [];
  does = record {
    seat = refl;
    key = refl;
    r = refl;
    prev = refl;
    stays_closed = closed;
    keeps = λ said h. h;
    kept = λ said h. inl h;
    none_opened = λ q p h. nothing _ h;
    closes = λ q count h. absurd (nothing _ h);
    told = λ i q t h. absurd (nothing _ h);
    claims = λ i claim h. inl h;
    claimed = λ i claim h. h;
    told_claimed = λ i word h. absurd (nothing _ h);
    signed = no_more c.signed;
    of_record = λ t h. absurd (nothing t h);
    posted = λ t h. absurd (nothing t h);
    fronts = λ to bytes h. absurd (nothing _ h);
    prev_held = λ b h. absurd (nothing _ h);
    grows = record { slots = refl; held = λ b h. h };
    one_each = λ one. one;
    new_held = λ b h. inl h;
    certified = λ e h. absurd (nothing _ h);
    none_held = λ q h. nothing _ h;
    runs_on = λ on. on;
    ran = λ on. inl on;
    spoiled = λ x reason kept came h. absurd (nothing _ h);
    openings = λ h. record { evidence = h.evidence; opened = h.opened };
  };
  carried = nothing_is;
}
