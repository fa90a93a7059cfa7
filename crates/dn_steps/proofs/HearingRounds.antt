-- A server hears a statement of a round: what its core does then, in its round.
use Rattle.std.proofs.Common.{◌≡◌, ◌≢◌, ℕ, ◌<◌, ◌≤◌, List, [], ◌∷◌, ◌++◌, length, refl, sym, ap, subst, ◌∙◌, inl, inr, Bool, true, false, arith}
use Rattle.std.specs.Prelude.{Contains, ◌⊎◌, All, Some, None, slice_get}
use Rattle.std.proofs.lemmas.Option.{same_Some}
use Rattle.std.proofs.lemmas.List.Elements.{All-contains, Contains-append_left, Contains-append_right, Contains-append_cases}
use Rattle.dn_wire.specs.declared.ids.ServerId.{ServerId}
use Rattle.dn_wire.specs.declared.ids.Round.{Round}
use Rattle.dn_wire.specs.declared.ids.SignerId.TheVariants.{Server}
use Rattle.dn_bits.specs.Bits.{bytes_of}
use Rattle.dn_hash.specs.Digests.{server_digest_of}
use Rattle.dn_record_types.specs.Place.{Place, place_of, inventory_of as inventory_place, commit_of, reveal_of, sign_of}
use Rattle.dn_record_types.specs.declared.inventory.Entry.{Entry}
use Rattle.dn_record_types.specs.declared.inventory.Inventory.{Inventory}
use Rattle.dn_record_types.specs.declared.statement.Statement.{Statement}
use Rattle.dn_record_types.specs.declared.statement.Statement.TheVariants as kinds
use Rattle.dn_records.specs.Records.{kind_byte, statement_bytes}
use Rattle.dn_roster.specs.Roster.{RosterView, IsRoster}
use Rattle.dn_seal.specs.Dealt.{server}
use Rattle.dn_seal.specs.Said.{SaidView}
use Rattle.dn_cert.specs.Certificate.{CertificateView}
use Rattle.dn_cert.specs.Signed.{EntryVerifies}
use Rattle.dn_cert.proofs.Orders.{here, nothing}
use Rattle.dn_server.specs.declared.act.Act.{Act}
use Rattle.dn_server.specs.declared.act.Act.TheVariants as acts
use Rattle.dn_server.specs.declared.act.SpoilReason.{SpoilReason}
use Rattle.dn_server.specs.declared.act.SpoilReason.TheVariants as reasons
use Rattle.dn_server.specs.declared.run.Stage.{Stage}
use Rattle.dn_server.specs.declared.run.Stage.TheVariants as stages
use Rattle.dn_server.specs.Justified.{Seat}
use Rattle.dn_server.specs.Keeping.{round_of}
use Rattle.dn_server.specs.Server.{ServerView, servers_in, statement_of, past_of, ended}
use Rattle.dn_rounds.specs.Going.{GoesOn, spoiled_twice}
use Rattle.dn_exchange.specs.Disciplined.{Disciplined, AreUnsaid}
use Rattle.dn_exchange.specs.Hearing.{HasFault, Differing, IsFirstFalse, with_kept}
use Rattle.dn_exchange.specs.Spoiling.{OwnBodiesAreDue}
use Rattle.dn_headline.specs.Group.{IsServer}
use Rattle.dn_headline.specs.Run.{RunView}
use Rattle.dn_headline.specs.Spoken.{WasSaid}
use Rattle.dn_headline.specs.Invariant.{seat_of}
use Rattle.dn_links.specs.Going.{GoesBy, KeepsRound}
use Rattle.dn_links.proofs.Going.{spoils_by, steps_by}
use Rattle.dn_links.proofs.Linking.{kept_there}
use Rattle.dn_server.specs.declared.past.Past.{Past}
use Rattle.dn_steps.specs.Openings.{KeepsOpenings}
use Rattle.dn_steps.specs.Tied.{IsServerTied}
use Rattle.dn_steps.proofs.Places.{only, one_at}
use Rattle.dn_steps.proofs.Carrying.{AreCarried}
use Rattle.dn_steps.proofs.Carrying.AreCarried.{nothing_is, tells}
use Rattle.dn_steps.proofs.GoingSteps.{IsGoing, kind_of_kept, steps_going, steps_certified, steps_spoiled, steps_open_none, opened_more}
use Rattle.dn_steps.proofs.InRound.{Spoils}
use Rattle.dn_steps.proofs.InRound.Spoils.{two_said, prev_said, entry_said, sum_said, commit_said, body_said}
use Rattle.dn_steps.proofs.GoingInRound.{StartsAs, steps_carried, kept_round, spoils_so, in_round}
use Rattle.dn_steps.proofs.Closing.{CallInRound}

-- ---- two statements of one kind and round have one place

same_place : (s t : Statement) (r : Round) → round_of s ≡ Some r → round_of t ≡ Some r → kind_byte s ≡ kind_byte t → (place : Place) × (place_of s ≡ Some place) × (place_of t ≡ Some place)
same_place (kinds.Inventory v) t r rs rt k = (inventory_place r, ap (λ (q : Round). Some (inventory_place q)) (same_Some v.r r rs), inventory_too t r rt (sym k)) where
  inventory_too : (x : Statement) (q : Round) → round_of x ≡ Some q → kind_byte x ≡ 3 → place_of x ≡ Some (inventory_place q)
  inventory_too (kinds.Inventory u) q round kind = ap (λ (z : Round). Some (inventory_place z)) (same_Some u.r q round)
  inventory_too _ q round kind = absurd cc
same_place (kinds.Commit q d) t r rs rt k = (commit_of r, ap (λ (z : Round). Some (commit_of z)) (same_Some q r rs), commit_too t r rt (sym k)) where
  commit_too : (x : Statement) (z : Round) → round_of x ≡ Some z → kind_byte x ≡ 4 → place_of x ≡ Some (commit_of z)
  commit_too (kinds.Commit y e) z round kind = ap (λ (a : Round). Some (commit_of a)) (same_Some y z round)
  commit_too _ z round kind = absurd cc
same_place (kinds.Reveal q s) t r rs rt k = (reveal_of r, ap (λ (z : Round). Some (reveal_of z)) (same_Some q r rs), reveal_too t r rt (sym k)) where
  reveal_too : (x : Statement) (z : Round) → round_of x ≡ Some z → kind_byte x ≡ 5 → place_of x ≡ Some (reveal_of z)
  reveal_too (kinds.Reveal y e) z round kind = ap (λ (a : Round). Some (reveal_of a)) (same_Some y z round)
  reveal_too _ z round kind = absurd cc
same_place (kinds.Sign b) t r rs rt k = (sign_of r, ap (λ (z : Round). Some (sign_of z)) (same_Some b.r r rs), sign_too t r rt (sym k)) where
  sign_too : (x : Statement) (z : Round) → round_of x ≡ Some z → kind_byte x ≡ 6 → place_of x ≡ Some (sign_of z)
  sign_too (kinds.Sign e) z round kind = ap (λ (a : Round). Some (sign_of a)) (same_Some e.r z round)
  sign_too _ z round kind = absurd cc
same_place _ t r rs rt k = absurd cc

-- ---- a statement of the round is heard

module _ (w : RunView) (j : ServerId) (c : ServerView) (within : IsServer w.group j) (is_roster : IsRoster w.group.roster) (tied : IsServerTied w j c) (x : ServerId) (said : SaidView)
    (by_x : said.signer ≡ server x.0) (was_said : WasSaid w said.signer said.statement) (round : round_of said.statement ≡ Some c.run.r) (on : c.run.is_running ≡ true) where
  abbrev s : ServerView
  s = with_kept c said

  starts : StartsAs w c s
  starts = record {
    seat = refl;
    key = refl;
    chain = refl;
    signed = refl;
    evidence = refl;
    opened = refl;
    pasts = refl;
    r = refl;
    prev = refl;
    claims = refl;
    running = refl;
    closed = λ h. h;
    keeps = λ z h. Contains-append_left c.run.kept (said ∷ []) z h;
    kept = λ z h. elim (Contains-append_cases c.run.kept (said ∷ []) z h) [
      | inl old ↦ inl old
      | inr now ↦ inr (subst (λ (y : SaidView). (round_of y.statement ≡ Some c.run.r) × WasSaid w y.signer y.statement) (only said z now) (round, was_said))
    ];
  }

  itself_starts : StartsAs w c c
  itself_starts = record {
    seat = refl;
    key = refl;
    chain = refl;
    signed = refl;
    evidence = refl;
    opened = refl;
    pasts = refl;
    r = refl;
    prev = refl;
    claims = refl;
    running = refl;
    closed = λ h. h;
    keeps = λ z h. h;
    kept = λ z h. inl h;
  }

  keeps : KeepsRound s
  keeps = kept_round w j c s s tied.linked tied.key starts

  seat_is : c.seat ≡ seat_of w.group j
  seat_is = tied.linked.seat

  in_group : c.seat.number < servers_in c
  in_group = subst (λ (z : Seat). z.number < servers_in (record c { seat = z })) (sym seat_is) within

  some_clients : 1 ≤ length c.seat.roster.clients
  some_clients = subst (λ (z : Seat). 1 ≤ length z.roster.clients) (sym seat_is) is_roster.clients.0

  in_roster : (did : List Act) → AreCarried c.seat.roster did → AreCarried w.group.roster did
  in_roster did h = subst (λ (z : Seat). AreCarried z.roster did) seat_is h

  no_front : (a : Act) → Contains [] a → ((count : ℕ) × (a ≡ acts.Closed c.run.r count)) × (c.run.window.closed ≡ true)
  no_front a h = absurd (nothing a h)

  some : 1 ≤ c.run.r.0
  some = tied.disciplined.started on

  -- the statement, as said by server x
  said_by_x : (t : Statement) → said.statement ≡ t → WasSaid w (Server x) t
  said_by_x t is = subst (WasSaid w (Server x)) is (subst (λ (who : _). WasSaid w who said.statement) by_x was_said)

  kept_by_x : (kind : ℕ) (t : Statement) → statement_of c.run.kept kind x.0 ≡ Some t → WasSaid w (Server x) t
  kept_by_x kind t e =
      let k = kept_there c.run.kept kind x.0 t e in
      subst (WasSaid w (Server x)) k.3 (subst (λ (who : _). WasSaid w who k.0.statement) k.2 (tied.linked.kept k.0 k.1))

  -- ---- it goes on

  unsaid_as : (stage : Stage) → AreUnsaid stage c → AreUnsaid stage s
  unsaid_as stages.Collecting h = h
  unsaid_as stages.Listed h = h
  unsaid_as stages.Committed h = h
  unsaid_as stages.Revealed h = h
  unsaid_as stages.Signed h = h

  pub goes_on_so : (did : List Act) (d : ServerView) → GoesOn (with_kept c said) did d → Disciplined d → OwnBodiesAreDue d did → CallInRound w j c did d
  goes_on_so did d goes disciplined due =
      let by = steps_by s did d in_group goes.steps in
      record {
        fresh = by.fresh;
        does = in_round w j c s d tied.linked tied.key starts [] did by disciplined (λ a h. absurd (nothing a h)) (steps_going s d did goes.steps)
            (steps_certified s d did in_group keeps goes.steps)
            (λ y reason kept came h. spoils_so w j c s d tied.linked tied.key starts y reason kept came did
            (steps_spoiled s d did in_group (λ runs. unsaid_as c.run.stage tied.disciplined.unsaid) keeps goes.steps y reason kept came h) due h)
            (λ h. steps_open_none w.group.roster s d did goes.steps (record { evidence = h.evidence; opened = h.opened })) within;
        carried = in_roster did (steps_carried s d did in_group some_clients goes.steps);
      }

  -- and keeps the statement
  pub keeps_said : (did : List Act) (d : ServerView) → GoesOn (with_kept c said) did d → Contains d.run.kept said
  keeps_said did d goes = (steps_by s did d in_group goes.steps).keeps said (Contains-append_right c.run.kept (said ∷ []) said (here said []))

  -- ---- it spoils the round

  not_certified : (a : Act) (y : ServerId) (reason : SpoilReason) (kept came : List ℕ) (e : CertificateView) → a ≡ acts.Spoiled y reason kept came → Contains (a ∷ []) (acts.Certified e) → ⊥
  not_certified a y reason kept came e is h = let z = sym is ∙ only a (acts.Certified e) h in absurd cc

  spoiled_same : (y z : ServerId) (r q : SpoilReason) (a b e f : List ℕ) → acts.Spoiled y r a b ≡ acts.Spoiled z q e f → y ≡ z
  spoiled_same y z r q a b e f h = cc

  opens_same : (d : ServerView) → d.evidence ≡ c.evidence → d.opened ≡ c.opened → d.pasts ≡ c.pasts → d.signed ≡ c.signed → KeepsOpenings w.group.roster c → KeepsOpenings w.group.roster d
  opens_same d evidence opened pasts signed h =
      opened_more w.group.roster c d evidence opened (λ r past e. ap (λ (ps : List Past). past_of ps r) pasts ∙ e) (λ t at. subst (λ (ts : List Statement). Contains ts t) (sym signed) at) h

  -- the round ends from there by one spoiling
  ends_so : (from d : ServerView) (y : ServerId) (reason : SpoilReason) (kept came : List ℕ) → StartsAs w c from → from.seat ≡ c.seat → d ≡ ended from → Disciplined d → Spoils w j c d y
      → CallInRound w j c (acts.Spoiled y reason kept came ∷ []) d
  ends_so from d y reason kept came start seat same disciplined spoils =
      let did = acts.Spoiled y reason kept came ∷ [] in
      let by : GoesBy from (acts.Spoiled y reason kept came ∷ []) d = subst (GoesBy from (acts.Spoiled y reason kept came ∷ [])) (sym same) (spoils_by from y reason kept came from.bend) in
      record {
        fresh = by.fresh;
        does = in_round w j c from d tied.linked tied.key start [] (acts.Spoiled y reason kept came ∷ []) by disciplined (λ a h. absurd (nothing a h))
            (λ a h. subst IsGoing (only (acts.Spoiled y reason kept came) a h) tt)
            (λ e h. absurd (not_certified (acts.Spoiled y reason kept came) y reason kept came e refl h))
            (λ z q k b h. subst (Spoils w j c d) (spoiled_same y z reason q kept came k b (only (acts.Spoiled y reason kept came) (acts.Spoiled z q k b) h)) spoils)
            (λ h. opens_same d (ap (λ (z : ServerView). z.evidence) same ∙ start.evidence) (ap (λ (z : ServerView). z.opened) same ∙ start.opened)
            (ap (λ (z : ServerView). z.pasts) same ∙ start.pasts) (ap (λ (z : ServerView). z.signed) same ∙ start.signed) h) within;
        carried = tells (acts.Spoiled y reason kept came) [] tt nothing_is;
      }

  -- another statement of the kind is kept
  pub second_so : (d : ServerView) (other : Statement) → statement_of c.run.kept (kind_byte said.statement) x.0 ≡ Some other → other ≢ said.statement → d ≡ ended c → Disciplined d
      → CallInRound w j c (spoiled_twice x.0 other said.statement ∷ []) d
  second_so d other at differ same disciplined =
      let k = kept_there c.run.kept (kind_byte said.statement) x.0 other at in
      let its_round : round_of other ≡ Some c.run.r = subst (λ (t : Statement). round_of t ≡ Some c.run.r) k.3 (tied.linked.kept_round k.0 k.1) in
      let place = same_place other said.statement c.run.r its_round round (kind_of_kept c.run.kept (kind_byte said.statement) x.0 other at) in
      ends_so c d x reasons.Twice (statement_bytes other) (statement_bytes said.statement) itself_starts refl same disciplined
      (two_said place.0 other said.statement (kept_by_x (kind_byte said.statement) other at) (said_by_x said.statement refl) place.1 place.2 differ)

  -- an entry that doesn't verify
  entry_false : (v : Inventory) (at : ℕ) → IsFirstFalse c v at → ¬ All (EntryVerifies w.group.roster v.r v.prev) v.entries
  entry_false v at first all =
      first.false_one (subst (λ (z : Seat). EntryVerifies z.roster v.r v.prev first.entry) (sym seat_is)
      (All-contains (EntryVerifies w.group.roster v.r v.prev) v.entries first.entry all (one_at v.entries at first.entry first.there)))

  -- the fault of the statement
  fault_spoils : (t : Statement) → said.statement ≡ t → (fault : Differing) (d : ServerView) → d ≡ ended (with_kept c said) → (reason : SpoilReason) → reason ≡ fault.reason → HasFault c x.0 t fault
      → OwnBodiesAreDue d (acts.Spoiled x fault.reason fault.kept fault.came ∷ []) → Spoils w j c d x
  fault_spoils (kinds.Inventory v) is fault d same reason e h due =
      elim h [
        | inl prev ↦ prev_said v some (said_by_x (kinds.Inventory v) is) (same_Some v.r c.run.r (subst (λ (t : Statement). round_of t ≡ Some c.run.r) is round)) prev.0
        | inr entry ↦ entry_said v (said_by_x (kinds.Inventory v) is) (entry_false v entry.0 entry.2)
      ]
  fault_spoils (kinds.Commit r digest) is fault d same reason e h due =
      let at : r ≡ c.run.r = same_Some r c.run.r (subst (λ (t : Statement). round_of t ≡ Some c.run.r) is round) in
      commit_said h.0 digest (subst (λ (q : Round). WasSaid w (Server x) (kinds.Reveal q h.0)) at (kept_by_x 5 (kinds.Reveal r h.0) h.1))
      (subst (λ (q : Round). WasSaid w (Server x) (kinds.Commit q digest)) at (said_by_x (kinds.Commit r digest) is)) (λ same_digest. h.2 (sym same_digest))
  fault_spoils (kinds.Reveal r sum) is fault d same reason e h due =
      let at : r ≡ c.run.r = same_Some r c.run.r (subst (λ (t : Statement). round_of t ≡ Some c.run.r) is round) in
      let revealed = subst (λ (q : Round). WasSaid w (Server x) (kinds.Reveal q sum)) at (said_by_x (kinds.Reveal r sum) is) in
      elim h [
        | inl long ↦ sum_said sum some revealed (λ n. long.0 (n ∙ ap (λ (z : ServerView). z.run.bits) same))
        | inr commit ↦ commit_said sum commit.0 revealed (subst (λ (q : Round). WasSaid w (Server x) (kinds.Commit q commit.0)) at (kept_by_x 4 (kinds.Commit r commit.0) commit.3))
            (λ same_digest. commit.4 (sym same_digest))
      ]
  fault_spoils (kinds.Sign b) is fault d same reason e h due =
      let body : fault.reason ≡ reasons.Body = ap (λ (z : Differing). z.reason) h.4 in
      body_said fault.kept (due x fault.kept fault.came
      (subst (λ (r : SpoilReason). Contains (acts.Spoiled x fault.reason fault.kept fault.came ∷ []) (acts.Spoiled x r fault.kept fault.came)) body (here (acts.Spoiled x fault.reason fault.kept fault.came) [])))
  fault_spoils (kinds.Submission r prev i digest) is fault d same reason e h due = absurd h
  fault_spoils (kinds.Receipt r i digest word) is fault d same reason e h due = absurd h
  fault_spoils (kinds.PadBits r k bits) is fault d same reason e h due = absurd h
  fault_spoils (kinds.Shown r sum ciphers) is fault d same reason e h due = absurd h
  fault_spoils (kinds.Accusation r slot k) is fault d same reason e h due = absurd h
  fault_spoils (kinds.Rebuttal r k y seed envelope) is fault d same reason e h due = absurd h
  fault_spoils (kinds.Concede r k) is fault d same reason e h due = absurd h

  pub faulty_so : (d : ServerView) (fault : Differing) → HasFault c x.0 said.statement fault → d ≡ ended (with_kept c said) → Disciplined d
      → OwnBodiesAreDue d (acts.Spoiled x fault.reason fault.kept fault.came ∷ []) → CallInRound w j c (acts.Spoiled x fault.reason fault.kept fault.came ∷ []) d
  faulty_so d fault h same disciplined due =
      ends_so s d x fault.reason fault.kept fault.came starts refl same disciplined (fault_spoils said.statement refl fault d same fault.reason refl h due)
