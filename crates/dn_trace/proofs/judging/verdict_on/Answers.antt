use Rattle.std.proofs.Common.{◌≡◌, ◌≢◌, ℕ, ◌<◌, false, ◌++◌, length, get_or, map, not, ◌&&◌, None, sym, ap, ◌∙◌, subst, arith, inl, inr}
use Rattle.std.specs.Prelude.{IsTrue, ◌↔◌}
use Rattle.std.proofs.lemmas.Bool.{false≢true, iff_false, cases_Bool}
use Rattle.std.proofs.lemmas.Result.{IfOk-weaker}
use Rattle.std.proofs.lemmas.List.FromFn.{length-map-range_with_len}
use Rattle.dn_bits.specs.Bits.{below}
use Rattle.dn_trace.specs.Trial.{servers_of}
use Rattle.dn_trace.specs.Verdict.{IsVerdict, IsSilent}
use Rattle.dn_trace.specs.Evidence.{Tells}
use Rattle.dn_trace.specs.Tables.{AreLeast, clients_of, a_server, a_client, blames_from, members_from, server_fault_of, client_fault_of}
use Rattle.dn_trace.proofs.Assembly.{verdict, servers_least, clients_least, unanswering_tells, names_none, names_some}
use Rattle.dn_trace.proofs.judging.verdict_on.Goals as goal
use Rattle.dn_trace.proofs.judging.verdict_on.Goals.{then-false_output, else-false_output}

pub challenged-requires-clause-none : goal.challenged-requires-clause-none
challenged-requires-clause-none g c =
    let trial = c.args.case.now in
    let output = c.in_ok-false_output.ensures in
    let own = c.in_ok-own.own.items in
    elim c.if-false_output.branch [
      | then-false_output w ↦
          ((λ none. absurd (none.output (output.0 w.if-false_output.true))), (λ f. absurd (false≢true (sym f ∙ w.names-is ∙ w.if-false_output.true))))
      | else-false_output w ↦
          let told : IsTrue w.names_one-names.result ↔ ((j : ℕ) × (j < length own) × (get_or own j None ≢ None)) =
          subst (λ l. IsTrue w.names_one-names.result ↔ ((j : ℕ) × (j < length l) × (get_or l j None ≢ None))) w.deref-else-false_output.ensures.value w.names_one-names.ensures in (
            (λ none. elim (cases_Bool w.names_one-names.result) [
              | inl t ↦ absurd (names_some trial c.requires.can own c.in_ok-own.ensures none (told.0 t))
              | inr f ↦ w.names-is ∙ f
            ]),
            (λ f. names_none trial c.requires.can own c.in_ok-own.ensures (iff_false told (sym w.names-is ∙ f)) (iff_false output w.if-false_output.false)),
          )
    ]

pub verdict_of-requires-clause-servers : goal.verdict_of-requires-clause-servers
verdict_of-requires-clause-servers g c =
    omega (arith, ap length c.deref-14.ensures.value, simp length-map-range_with_len at (ap length c.in_ok-servers.ensures), ap length c.deref-5.ensures.value, c.in_ok-own.ensures.size, c.requires.small.0)

pub verdict_of-requires-clause-clients : goal.verdict_of-requires-clause-clients
verdict_of-requires-clause-clients g c =
    omega (arith, ap length c.deref-15.ensures.value, simp length-map-range_with_len at (ap length c.in_ok-clients.ensures), ap length c.deref-7.ensures.value, c.in_ok-is_double.ensures.size, c.requires.small.1)

pub verdict_of-requires-clause-closed : goal.verdict_of-requires-clause-closed
verdict_of-requires-clause-closed g c =
    omega (arith, ap length c.deref-16.ensures.value, c.in_ok-closed.ensures.size, c.requires.small.0)

pub verdict_of-requires-clause-unanswering : goal.verdict_of-requires-clause-unanswering
verdict_of-requires-clause-unanswering g c =
    omega (arith, ap length c.deref-17.ensures.value, simp length-map-range_with_len at (ap length c.in_ok-unanswering.ensures), ap length c.deref-12.ensures.value, c.in_ok-is_challenged.ensures.size, c.requires.small.1)

pub returns : goal.returns
returns g c =
    let trial = c.args.case.now in
    let can = c.requires.can in
    let answers = c.in_ok-answers.ensures in
    let double = c.in_ok-is_double.is_double.items in
    let ch = c.in_ok-is_challenged.is_challenged.items in
    let servers = c.in_ok-servers.servers.items in
    let clients = c.in_ok-clients.clients.items in
    let closed = c.in_ok-closed.closed.items in
    let unanswering = c.in_ok-unanswering.unanswering.items in
    let own = c.in_ok-own.own.items in
    let out = c.in_ok-false_output.false_output in
    let rebutted = c.in_ok-answers.answers.is_rebutted.items in
    let badly = c.in_ok-answers.answers.rebuts_badly.items in
    let conceded = c.in_ok-answers.answers.concedes.items in
    let answered = c.in_ok-answers.answers.answers.items in
    let servers_are : servers ≡ map (λ j. server_fault_of (get_or own j None) (get_or rebutted j false) out) (below (length own)) =
    c.in_ok-servers.ensures ∙ (λ i. map (λ j. server_fault_of (get_or (c.deref-5.ensures.value i) j None) (get_or (c.deref-6.ensures.value i) j false) out) (below (length (c.deref-5.ensures.value i)))) in
    let clients_are : clients ≡ map (λ k. client_fault_of (get_or double k false) (get_or ch k false) (get_or badly k false) (get_or conceded k false)) (below (length double)) =
    c.in_ok-clients.ensures ∙ (λ i. map (λ k. client_fault_of (get_or (c.deref-7.ensures.value i) k false) (get_or (c.deref-8.ensures.value i) k false) (get_or (c.deref-9.ensures.value i) k false) (get_or (c.deref-10.ensures.value i) k false)) (below (length (c.deref-7.ensures.value i)))) in
    let blamed_one = c.names_one-is_blamed.result in
    let unanswering_are : unanswering ≡ map (λ k. not blamed_one && get_or ch k false && not (get_or answered k false)) (below (length ch)) =
    c.in_ok-unanswering.ensures ∙ (λ i. map (λ k. not blamed_one && get_or (c.deref-12.ensures.value i) k false && not (get_or (c.deref-13.ensures.value i) k false)) (below (length (c.deref-12.ensures.value i)))) in
    let s : AreLeast trial a_server (servers_of trial) servers =
    subst (AreLeast trial a_server (servers_of trial)) (sym servers_are) (servers_least trial can own rebutted out c.in_ok-own.ensures answers.rebutted c.in_ok-false_output.ensures) in
    let cs : AreLeast trial a_client (clients_of trial) clients =
    subst (AreLeast trial a_client (clients_of trial)) (sym clients_are) (clients_least trial can double ch badly conceded c.in_ok-is_double.ensures c.in_ok-is_challenged.ensures answers.badly answers.conceded) in
    let told : IsTrue blamed_one ↔ ((j : ℕ) × (j < length servers) × (get_or servers j None ≢ None)) =
    subst (λ l. IsTrue blamed_one ↔ ((j : ℕ) × (j < length l) × (get_or l j None ≢ None))) c.deref-11.ensures.value c.names_one-is_blamed.ensures in
    let un : Tells unanswering (clients_of trial) (λ i. IsSilent trial (a_client i)) =
    subst (λ l. Tells l (clients_of trial) (λ i. IsSilent trial (a_client i))) (sym unanswering_are)
    (unanswering_tells trial can servers ch answered blamed_one s told c.in_ok-is_challenged.ensures answers.answered) in
    let is = verdict trial can servers clients closed unanswering s cs c.in_ok-closed.ensures un in
    IfOk-weaker c.verdict_of.result
    (λ v. (v.blamed ≡ blames_from a_server 0 c.deref-14.result.now ++ blames_from a_client 0 c.deref-15.result.now) × (v.silent ≡ members_from a_server 0 c.deref-16.result.now ++ members_from a_client 0 c.deref-17.result.now))
    (λ v. IsVerdict trial v.blamed v.silent)
    (λ v e.
    let blamed : v.blamed ≡ blames_from a_server 0 servers ++ blames_from a_client 0 clients = e.0 ∙ (λ i. blames_from a_server 0 (c.deref-14.ensures.value i) ++ blames_from a_client 0 (c.deref-15.ensures.value i)) in
    let silent : v.silent ≡ members_from a_server 0 closed ++ members_from a_client 0 unanswering = e.1 ∙ (λ i. members_from a_server 0 (c.deref-16.ensures.value i) ++ members_from a_client 0 (c.deref-17.ensures.value i)) in
    subst (λ l. IsVerdict trial l v.silent) (sym blamed) (subst (IsVerdict trial (blames_from a_server 0 servers ++ blames_from a_client 0 clients)) (sym silent) is))
    c.verdict_of.ensures
