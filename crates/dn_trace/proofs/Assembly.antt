-- A verdict from what is found of each member.
use Rattle.std.proofs.Common.{◌≡◌, ◌≢◌, ℕ, ◌+◌, ◌<◌, ◌≤◌, Bool, true, false, not, ◌&&◌, List, ◌++◌, length, get_or, map, refl, sym, ap, ◌∙◌, subst, arith, inl, inr, Option, Some, None}
use Rattle.std.specs.Prelude.{Contains, IsTrue, ◌↔◌}
use Rattle.std.proofs.lemmas.Bool.{false≢true, iff_false}
use Rattle.std.proofs.lemmas.Option.{none-some}
use Rattle.std.proofs.lemmas.List.{map-append}
use Rattle.std.proofs.lemmas.List.Elements.{Contains-get_or, Contains-append_left, Contains-append_right, Contains-append_cases}
use Rattle.std.proofs.lemmas.List.FromFn.{length-map-range_with_len, get_or-map-range_with_len}
use Rattle.dn_bits.specs.Bits.{below}
use Rattle.dn_wire.specs.declared.ids.Member.{Member}
use Rattle.dn_wire.specs.declared.ids.Member.TheVariants as members
use Rattle.dn_trace.specs.declared.fault.Fault.{Fault}
use Rattle.dn_trace.specs.declared.fault.Fault.TheVariants as faults
use Rattle.dn_trace.specs.Trial.{Trial, CanJudge, servers_of}
use Rattle.dn_trace.specs.Reasons.{IsRebutted, IsListed, HasFalseOutput}
use Rattle.dn_trace.specs.Challenged.{NamesNone, IsOpened, IsChallenged}
use Rattle.dn_trace.specs.Verdict.{Has, ServerHas, ClientHas, HasLeast, IsDouble, Answers, Concedes, IsSilent, StandsBefore, IsVerdict, reason}
use Rattle.dn_trace.specs.Evidence.{Tells, HasOwn}
use Rattle.dn_trace.specs.Tables.{clients_of, RebutsFalsely, AreOwn, IsLeast, AreLeast, a_server, a_client, blames_from, members_from, server_fault_of, client_fault_of}
use Rattle.dn_trace.proofs.Ordering.{pairs_append, blames_has, blames_are, blames_ordered, members_has, members_are, members_ordered, Contains-from_map}
use Rattle.dn_trace.proofs.RangeLemmas.{server_in, client_in, challenged_in}

module _ (trial : Trial) (j : ℕ) where
  at_least_six : HasOwn trial j None → (other : Fault) → ServerHas trial j other → 6 ≤ reason other
  at_least_six own faults.Twice has = absurd (own faults.Twice (omega arith) has)
  at_least_six own faults.Entry has = absurd (own faults.Entry (omega arith) has)
  at_least_six own faults.Commit has = absurd (own faults.Commit (omega arith) has)
  at_least_six own faults.Shown has = absurd (own faults.Shown (omega arith) has)
  at_least_six own faults.Sum has = absurd (own faults.Sum (omega arith) has)
  at_least_six own faults.Pad has = omega arith
  at_least_six own faults.Output has = omega arith
  at_least_six own faults.Double has = absurd has
  at_least_six own faults.Rebuttal has = absurd has
  at_least_six own faults.Conceded has = absurd has

  at_least_seven : HasOwn trial j None → ¬ IsRebutted trial j → (other : Fault) → ServerHas trial j other → 7 ≤ reason other
  at_least_seven own good faults.Twice has = absurd (own faults.Twice (omega arith) has)
  at_least_seven own good faults.Entry has = absurd (own faults.Entry (omega arith) has)
  at_least_seven own good faults.Commit has = absurd (own faults.Commit (omega arith) has)
  at_least_seven own good faults.Shown has = absurd (own faults.Shown (omega arith) has)
  at_least_seven own good faults.Sum has = absurd (own faults.Sum (omega arith) has)
  at_least_seven own good faults.Pad has = absurd (good has)
  at_least_seven own good faults.Output has = omega arith
  at_least_seven own good faults.Double has = absurd has
  at_least_seven own good faults.Rebuttal has = absurd has
  at_least_seven own good faults.Conceded has = absurd has

  server_least : (own : Option Fault) (rebutted output : Bool) → HasOwn trial j own → (IsTrue rebutted ↔ IsRebutted trial j) → (IsTrue output ↔ HasFalseOutput trial)
      → j < servers_of trial → IsLeast trial (a_server j) (server_fault_of own rebutted output)
  server_least (Some f) rebutted output own r o lt = record { has = own.1; least = own.2 }
  server_least None true output own r o lt = record { has = r.0 refl; least = at_least_six own }
  server_least None false true own r o lt = record { has = (lt, o.0 refl); least = at_least_seven own (iff_false r refl) }
  server_least None false false own r o lt = λ fault has.
      let seven = at_least_seven own (iff_false r refl) fault has in no_output fault has seven
    where
      no_output : (fault : Fault) → ServerHas trial j fault → 7 ≤ reason fault → ⊥
      no_output faults.Twice has le = omega arith
      no_output faults.Entry has le = omega arith
      no_output faults.Commit has le = omega arith
      no_output faults.Shown has le = omega arith
      no_output faults.Sum has le = omega arith
      no_output faults.Pad has le = omega arith
      no_output faults.Output has le = iff_false o refl has.1
      no_output faults.Double has le = has
      no_output faults.Rebuttal has le = has
      no_output faults.Conceded has le = has

module _ (trial : Trial) (i : ℕ) where
  least_eight : (other : Fault) → ClientHas trial i other → 8 ≤ reason other
  least_eight faults.Twice has = absurd has
  least_eight faults.Entry has = absurd has
  least_eight faults.Commit has = absurd has
  least_eight faults.Shown has = absurd has
  least_eight faults.Sum has = absurd has
  least_eight faults.Pad has = absurd has
  least_eight faults.Output has = absurd has
  least_eight faults.Double has = omega arith
  least_eight faults.Rebuttal has = omega arith
  least_eight faults.Conceded has = omega arith

  least_nine : ¬ IsDouble trial i → (other : Fault) → ClientHas trial i other → 9 ≤ reason other
  least_nine single faults.Double has = absurd (single has)
  least_nine single faults.Rebuttal has = omega arith
  least_nine single faults.Conceded has = omega arith
  least_nine single faults.Twice has = absurd has
  least_nine single faults.Entry has = absurd has
  least_nine single faults.Commit has = absurd has
  least_nine single faults.Shown has = absurd has
  least_nine single faults.Sum has = absurd has
  least_nine single faults.Pad has = absurd has
  least_nine single faults.Output has = absurd has

  least_ten : ¬ IsDouble trial i → ¬ (IsChallenged trial i × RebutsFalsely trial i) → (other : Fault) → ClientHas trial i other → 10 ≤ reason other
  least_ten single good faults.Double has = absurd (single has)
  least_ten single good faults.Rebuttal has = absurd (good (has.challenged, record { s = has.s; j = has.j; rebuts = has.rebuts; bad = has.bad }))
  least_ten single good faults.Conceded has = omega arith
  least_ten single good faults.Twice has = absurd has
  least_ten single good faults.Entry has = absurd has
  least_ten single good faults.Commit has = absurd has
  least_ten single good faults.Shown has = absurd has
  least_ten single good faults.Sum has = absurd has
  least_ten single good faults.Pad has = absurd has
  least_ten single good faults.Output has = absurd has

  no_client_fault : ¬ IsDouble trial i → ¬ (IsChallenged trial i × RebutsFalsely trial i) → ¬ (IsChallenged trial i × Concedes trial i) → (other : Fault) → ¬ ClientHas trial i other
  no_client_fault single good firm faults.Double has = single has
  no_client_fault single good firm faults.Rebuttal has = good (has.challenged, record { s = has.s; j = has.j; rebuts = has.rebuts; bad = has.bad })
  no_client_fault single good firm faults.Conceded has = firm (has.0, has.1)
  no_client_fault single good firm faults.Twice has = has
  no_client_fault single good firm faults.Entry has = has
  no_client_fault single good firm faults.Commit has = has
  no_client_fault single good firm faults.Shown has = has
  no_client_fault single good firm faults.Sum has = has
  no_client_fault single good firm faults.Pad has = has
  no_client_fault single good firm faults.Output has = has

  listed_challenged : IsChallenged trial i → IsListed trial i
  listed_challenged ch = (ch.row, ch.listed, ch.client)

  client_least : (d c b k : Bool) → (IsTrue d ↔ IsDouble trial i) → (IsTrue c ↔ IsChallenged trial i) → (IsTrue b ↔ RebutsFalsely trial i)
      → (IsTrue k ↔ (IsListed trial i × Concedes trial i)) → IsLeast trial (a_client i) (client_fault_of d c b k)
  client_least true c b k hd hc hb hk = record { has = hd.0 refl; least = least_eight }
  client_least false false b k hd hc hb hk = no_client_fault (iff_false hd refl) (λ x. iff_false hc refl x.0) (λ x. iff_false hc refl x.0)
  client_least false true true k hd hc hb hk =
      let bad = hb.0 refl in
      record { has = record { challenged = hc.0 refl; s = bad.s; j = bad.j; rebuts = bad.rebuts; bad = bad.bad }; least = least_nine (iff_false hd refl) }
  client_least false true false true hd hc hb hk =
      record { has = (hc.0 refl, (hk.0 refl).1); least = least_ten (iff_false hd refl) (λ x. iff_false hb refl x.1) }
  client_least false true false false hd hc hb hk =
      no_client_fault (iff_false hd refl) (λ x. iff_false hb refl x.1) (λ x. iff_false hk refl (listed_challenged x.0, x.1))

-- ---- the lists

module _ (trial : Trial) (can : CanJudge trial) (servers clients : List (Option Fault)) (closed unanswering : List Bool)
    (s : AreLeast trial a_server (servers_of trial) servers) (c : AreLeast trial a_client (clients_of trial) clients)
    (cl : Tells closed (servers_of trial) (λ j. ¬ IsOpened trial j)) (un : Tells unanswering (clients_of trial) (λ i. IsSilent trial (a_client i))) where
  abbrev blamed : List (Member × Fault)
  blamed = blames_from a_server 0 servers ++ blames_from a_client 0 clients

  abbrev silent : List Member
  silent = members_from a_server 0 closed ++ members_from a_client 0 unanswering

  least_at : (member : ℕ → Member) (n : ℕ) (table : List (Option Fault)) → AreLeast trial member n table → (b : Member × Fault) → Contains (blames_from member 0 table) b → HasLeast trial b.0 b.1
  least_at member n table are b among =
      let r = blames_are member 0 table b among in
      let lt : r.0 < n = omega (arith, r.2, are.size) in
      let at : 0 + r.0 ≡ r.0 = omega arith in
      let h : HasLeast trial (member r.0) r.1 = subst (IsLeast trial (member r.0)) r.3 (are.each r.0 lt) in
      subst (λ (x : Member × Fault). HasLeast trial x.0 x.1) (sym (r.4 ∙ ap (λ n'. (member n', r.1)) at)) h

  blamed_at : (member : ℕ → Member) (n : ℕ) (table : List (Option Fault)) → AreLeast trial member n table → (k : ℕ) → k < n → (fault : Fault) → Has trial (member k) fault
      → (least : Fault) × Contains (blames_from member 0 table) (member k, least)
  blamed_at member n table are k lt fault has = by (get_or table k None) refl (are.each k lt)
    where
      by : (o : Option Fault) → get_or table k None ≡ o → IsLeast trial (member k) o → (least : Fault) × Contains (blames_from member 0 table) (member k, least)
      by None e none = absurd (none fault has)
      by (Some f) e least = (f, blames_has member 0 table k f k (omega (arith, are.size)) e (omega arith))

  pub verdict : IsVerdict trial blamed silent
  verdict = record {
    in_order = rw (map-append (λ (b : Member × Fault). b.0) (blames_from a_server 0 servers) (blames_from a_client 0 clients))
        (pairs_append StandsBefore (map (λ b. b.0) (blames_from a_server 0 servers)) (map (λ b. b.0) (blames_from a_client 0 clients))
        (blames_ordered a_server StandsBefore (λ i j lt. lt) 0 servers) (blames_ordered a_client StandsBefore (λ i j lt. lt) 0 clients)
        apart_blames);
    blames = λ k d lt. elim (Contains-append_cases (blames_from a_server 0 servers) (blames_from a_client 0 clients) (get_or blamed k d) (Contains-get_or blamed k d lt)) [
      | inl left ↦ least_at a_server (servers_of trial) servers s (get_or blamed k d) left
      | inr right ↦ least_at a_client (clients_of trial) clients c (get_or blamed k d) right
    ];
    all_blamed = all_blamed_of;
    silent_in_order = pairs_append StandsBefore (members_from a_server 0 closed) (members_from a_client 0 unanswering)
        (members_ordered a_server StandsBefore (λ i j lt. lt) 0 closed) (members_ordered a_client StandsBefore (λ i j lt. lt) 0 unanswering) apart_silent;
    are_silent = λ k d lt. elim (Contains-append_cases (members_from a_server 0 closed) (members_from a_client 0 unanswering) (get_or silent k d) (Contains-get_or silent k d lt)) [
      | inl left ↦ closed_silent (get_or silent k d) left
      | inr right ↦ unanswering_silent (get_or silent k d) right
    ];
    all_silent = all_silent_of;
  }
    where
      apart_blames : (x y : Member) → Contains (map (λ (b : Member × Fault). b.0) (blames_from a_server 0 servers)) x → Contains (map (λ (b : Member × Fault). b.0) (blames_from a_client 0 clients)) y → StandsBefore x y
      apart_blames x y in_servers in_clients =
          let a = Contains-from_map (λ (b : Member × Fault). b.0) (blames_from a_server 0 servers) x in_servers in
          let b = Contains-from_map (λ (b : Member × Fault). b.0) (blames_from a_client 0 clients) y in_clients in
          let ra = blames_are a_server 0 servers a.0 a.1 in
          let rb = blames_are a_client 0 clients b.0 b.1 in
          subst (λ m. StandsBefore m y) (sym (sym a.2 ∙ ap (λ z. z.0) ra.4)) (subst (StandsBefore (a_server (0 + ra.0))) (sym (sym b.2 ∙ ap (λ z. z.0) rb.4)) tt)

      apart_silent : (x y : Member) → Contains (members_from a_server 0 closed) x → Contains (members_from a_client 0 unanswering) y → StandsBefore x y
      apart_silent x y in_servers in_clients =
          let ra = members_are a_server 0 closed x in_servers in
          let rb = members_are a_client 0 unanswering y in_clients in
          subst (λ m. StandsBefore m y) (sym ra.3) (subst (StandsBefore (a_server (0 + ra.0))) (sym rb.3) tt)

      all_blamed_of : (member : Member) (fault : Fault) → Has trial member fault → (least : Fault) × Contains blamed (member, least)
      all_blamed_of (members.Client i) fault has =
          let r = blamed_at a_client (clients_of trial) clients c i.0 (client_in trial can i.0 fault has) fault has in
          (r.0, Contains-append_right (blames_from a_server 0 servers) (blames_from a_client 0 clients) (members.Client i, r.0) r.1)
      all_blamed_of (members.Server j) fault has =
          let r = blamed_at a_server (servers_of trial) servers s j.0 (server_in trial can j.0 fault has) fault has in
          (r.0, Contains-append_left (blames_from a_server 0 servers) (blames_from a_client 0 clients) (members.Server j, r.0) r.1)

      closed_silent : (m : Member) → Contains (members_from a_server 0 closed) m → IsSilent trial m
      closed_silent m among =
          let r = members_are a_server 0 closed m among in
          let lt : r.0 < servers_of trial = omega (arith, r.1, cl.size) in
          let at : 0 + r.0 ≡ r.0 = omega arith in
          subst (IsSilent trial) (sym (r.3 ∙ ap a_server at)) (lt, (cl.each r.0 lt).0 r.2)

      unanswering_silent : (m : Member) → Contains (members_from a_client 0 unanswering) m → IsSilent trial m
      unanswering_silent m among =
          let r = members_are a_client 0 unanswering m among in
          let lt : r.0 < clients_of trial = omega (arith, r.1, un.size) in
          let at : 0 + r.0 ≡ r.0 = omega arith in
          subst (IsSilent trial) (sym (r.3 ∙ ap a_client at)) ((un.each r.0 lt).0 r.2)

      all_silent_of : (m : Member) → IsSilent trial m → Contains silent m
      all_silent_of (members.Client i) is =
          let lt = challenged_in trial can i.0 is.1 in
          Contains-append_right (members_from a_server 0 closed) (members_from a_client 0 unanswering) (members.Client i)
          (members_has a_client 0 unanswering i.0 i.0 (omega (arith, un.size)) ((un.each i.0 lt).1 is) (omega arith))
      all_silent_of (members.Server j) is =
          Contains-append_left (members_from a_server 0 closed) (members_from a_client 0 unanswering) (members.Server j)
          (members_has a_server 0 closed j.0 j.0 (omega (arith, cl.size, is.0)) ((cl.each j.0 is.0).1 is.1) (omega arith))

-- ---- the tables

module _ (trial : Trial) (can : CanJudge trial) where
  pub servers_least : (own : List (Option Fault)) (rebutted : List Bool) (output : Bool) → AreOwn trial own → Tells rebutted (servers_of trial) (IsRebutted trial)
      → (IsTrue output ↔ HasFalseOutput trial)
      → AreLeast trial a_server (servers_of trial) (map (λ j. server_fault_of (get_or own j None) (get_or rebutted j false) output) (below (length own)))
  servers_least own rebutted output are r o =
      let f : ℕ → Option Fault = λ j. server_fault_of (get_or own j None) (get_or rebutted j false) output in
      record {
        size = length-map-range_with_len f 0 (length own) ∙ are.size;
        each = λ j lt. subst (IsLeast trial (a_server j)) (sym (get_or-map-range_with_len f 0 (length own) j j None (omega (arith, are.size)) (omega arith)))
            (server_least trial j (get_or own j None) (get_or rebutted j false) output (are.each j lt) (r.each j lt) o lt);
      }

  pub clients_least : (d ch b k : List Bool) → Tells d (clients_of trial) (IsDouble trial) → Tells ch (clients_of trial) (IsChallenged trial)
      → Tells b (clients_of trial) (RebutsFalsely trial) → Tells k (clients_of trial) (λ i. IsListed trial i × Concedes trial i)
      → AreLeast trial a_client (clients_of trial) (map (λ i. client_fault_of (get_or d i false) (get_or ch i false) (get_or b i false) (get_or k i false)) (below (length d)))
  clients_least d ch b k hd hc hb hk =
      let f : ℕ → Option Fault = λ i. client_fault_of (get_or d i false) (get_or ch i false) (get_or b i false) (get_or k i false) in
      record {
        size = length-map-range_with_len f 0 (length d) ∙ hd.size;
        each = λ i lt. subst (IsLeast trial (a_client i)) (sym (get_or-map-range_with_len f 0 (length d) i i None (omega (arith, hd.size)) (omega arith)))
            (client_least trial i (get_or d i false) (get_or ch i false) (get_or b i false) (get_or k i false) (hd.each i lt) (hc.each i lt) (hb.each i lt) (hk.each i lt));
      }

  abbrev SomeBlamed : List (Option Fault) → Type 0
  SomeBlamed servers = (j : ℕ) × (j < length servers) × (get_or servers j None ≢ None)

  none_blamed : (servers : List (Option Fault)) → AreLeast trial a_server (servers_of trial) servers → ¬ SomeBlamed servers → (j : ℕ) (fault : Fault) → ¬ ServerHas trial j fault
  none_blamed servers s none j fault has = by (get_or servers j None) refl (s.each j (server_in trial can j fault has))
    where
      by : (o : Option Fault) → get_or servers j None ≡ o → IsLeast trial (a_server j) o → ⊥
      by None e least = least fault has
      by (Some f) e least = none (j, (let lt = server_in trial can j fault has in omega (arith, s.size)), λ e'. none-some f (sym e' ∙ e))

  some_blamed : (servers : List (Option Fault)) → AreLeast trial a_server (servers_of trial) servers → ((j : ℕ) (fault : Fault) → ¬ ServerHas trial j fault) → ¬ SomeBlamed servers
  some_blamed servers s none (j, lt, is) = by (get_or servers j None) refl (s.each j (omega (arith, s.size)))
    where
      by : (o : Option Fault) → get_or servers j None ≡ o → IsLeast trial (a_server j) o → ⊥
      by None e least = is e
      by (Some f) e least = none j f least.has

  unanswering_of : (ch answered blamed : Bool) → Bool
  unanswering_of ch answered blamed = not blamed && ch && not answered

  pub unanswering_tells : (servers : List (Option Fault)) (ch answered : List Bool) (blamed : Bool) → AreLeast trial a_server (servers_of trial) servers
      → (IsTrue blamed ↔ SomeBlamed servers) → Tells ch (clients_of trial) (IsChallenged trial) → Tells answered (clients_of trial) (λ i. IsListed trial i × Answers trial i)
      → Tells (map (λ i. not blamed && get_or ch i false && not (get_or answered i false)) (below (length ch))) (clients_of trial) (λ i. IsSilent trial (a_client i))
  unanswering_tells servers ch answered blamed s b hc ha =
      let f : ℕ → Bool = λ i. not blamed && get_or ch i false && not (get_or answered i false) in
      record {
        size = length-map-range_with_len f 0 (length ch) ∙ hc.size;
        each = λ i lt. subst (λ (x : Bool). IsTrue x ↔ IsSilent trial (a_client i)) (sym (get_or-map-range_with_len f 0 (length ch) i i false (omega (arith, hc.size)) (omega arith)))
            (one i blamed (get_or ch i false) (get_or answered i false) b (hc.each i lt) (ha.each i lt));
      }
    where
      one : (i : ℕ) (x y z : Bool) → (IsTrue x ↔ SomeBlamed servers) → (IsTrue y ↔ IsChallenged trial i) → (IsTrue z ↔ (IsListed trial i × Answers trial i))
          → IsTrue (not x && y && not z) ↔ IsSilent trial (a_client i)
      one i true y z hx hy hz = ((λ t. absurd (false≢true t)), (λ is. absurd (some_blamed servers s is.0 (hx.0 refl))))
      one i false false z hx hy hz = ((λ t. absurd (false≢true t)), (λ is. absurd (iff_false hy refl is.1)))
      one i false true true hx hy hz = ((λ t. absurd (false≢true t)), (λ is. absurd (is.2 (hz.0 refl).1)))
      one i false true false hx hy hz =
          ((λ t. (none_blamed servers s (iff_false hx refl), hy.0 refl, λ answers. iff_false hz refl (listed_challenged trial i (hy.0 refl), answers))), (λ is. refl))

  -- no reason but a rebuttal names a server exactly where none has a fault of its own and the output isn't false
  pub names_none : (own : List (Option Fault)) → AreOwn trial own → ¬ SomeBlamed own → ¬ HasFalseOutput trial → NamesNone trial
  names_none own are none output = record {
    twice = λ j has. not_own j faults.Twice (omega arith) has;
    entry = λ j has. not_own j faults.Entry (omega arith) has;
    commit = λ j has. not_own j faults.Commit (omega arith) has;
    shown = λ j has. not_own j faults.Shown (omega arith) has;
    sum = λ j has. not_own j faults.Sum (omega arith) has;
    output = output;
  }
    where
      not_own : (j : ℕ) (fault : Fault) → reason fault ≤ 5 → ¬ ServerHas trial j fault
      not_own j fault le has = by (get_or own j None) refl (are.each j (server_in trial can j fault has))
        where
          by : (o : Option Fault) → get_or own j None ≡ o → HasOwn trial j o → ⊥
          by None e least = least fault le has
          by (Some f) e least = none (j, (let lt = server_in trial can j fault has in omega (arith, are.size)), λ e'. none-some f (sym e' ∙ e))

  pub names_some : (own : List (Option Fault)) → AreOwn trial own → NamesNone trial → ¬ SomeBlamed own
  names_some own are named (j, lt, is) = by (get_or own j None) refl (are.each j (omega (arith, are.size)))
    where
      no_own : (f : Fault) → reason f ≤ 5 → ¬ ServerHas trial j f
      no_own faults.Twice le has = named.twice j has
      no_own faults.Entry le has = named.entry j has
      no_own faults.Commit le has = named.commit j has
      no_own faults.Shown le has = named.shown j has
      no_own faults.Sum le has = named.sum j has
      no_own faults.Pad le has = omega arith
      no_own faults.Output le has = omega arith
      no_own faults.Double le has = has
      no_own faults.Rebuttal le has = has
      no_own faults.Conceded le has = has

      by : (o : Option Fault) → get_or own j None ≡ o → HasOwn trial j o → ⊥
      by None e least = is e
      by (Some f) e least = no_own f least.0 least.1
