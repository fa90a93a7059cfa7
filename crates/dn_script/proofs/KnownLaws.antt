-- Each line that may stand behind what has been read is read from its spelling.
use Rattle.std.proofs.Common.{◌≡◌, ℕ, ◌+◌, ◌^◌, ◌<◌, true, false, List, [], ◌∷◌, map, length, Option, Some, None, Ok, refl, sym, subst, ◌∙◌, inl, inr, arith}
use Rattle.std.specs.Prelude.{nat_le, ◌&&◌, not, codes}
use Rattle.std.specs.Fmt.{decimal}
use Rattle.std.specs.Str.{bytes_eq}
use Rattle.std.proofs.lemmas.Bool.{le-leb, not_from_true, cases_eq}
use Rattle.std.proofs.lemmas.List.{length-map}
use Rattle.dn_wire.specs.declared.limits.TheConstants.{MAX_BITS, MAX_CLIENTS, MAX_FLOW, MAX_LIVE_TURNS, MAX_RACE_LIST, MAX_RACE_WORKERS, MAX_SERVERS, MAX_TEXT, MAX_TICKS}
use Rattle.dn_wire.specs.declared.ids.ClientId.{ClientId}
use Rattle.dn_wire.specs.declared.ids.ServerId.{ServerId}
use Rattle.dn_wire.specs.declared.ids.Round.{Round}
use Rattle.dn_wire.specs.declared.ids.Member.{Member}
use Rattle.dn_lines.specs.Fields.{hex_text}
use Rattle.dn_script.specs.declared.context.Form.TheVariants as forms
use Rattle.dn_script.specs.declared.script_line.ScriptLine.{ScriptLine}
use Rattle.dn_script.specs.declared.script_line.ScriptLine.TheVariants as lines
use Rattle.dn_script.specs.declared.script_line.Twist.{Twist}
use Rattle.dn_script.specs.declared.script_line.Twist.TheVariants as twists
use Rattle.dn_script.specs.Words.{has}
use Rattle.dn_script.specs.Judged.{within, any_bytes, bytes_within, client_in, server_in, member_in, corrupt_member, corrupt_server, honest_server, honest_client, member_text, client_text, server_text}
use Rattle.dn_script.specs.Row.{one, ◌▹◌, every}
use Rattle.dn_script.specs.Context.{Context, group_in}
use Rattle.dn_script.specs.Script.{read_plain, read_plain_say, read_plain_submit, read_tick, read_group, read_corrupt, read_say, read_open, read_close, read_abandon, read_submit, read_deliver, read_lose, read_cut, read_flow, read_leave, read_accuse, read_judge, read_race, read_live, read_inject, read_speak, read_replay, read_lure, read_complete, read_twist_of, is_word, is_listed, is_misplaced, plain_words, group_words, opening_words, opening_kinds, plain_kinds, group_kinds, kinds_of, read_kind, client_number, round, place, any_number, seed, bits, place_text, place_or_first, speaks_again}
use Rattle.dn_script.specs.Spelled.{line_words, Stands, IsIn}
use Rattle.dn_script.proofs.FieldLaws.{within_exact, place_exact, any_number_exact, round_exact, client_number_exact, any_bytes_exact, bytes_within_exact, seed_exact, bits_exact, client_exact, server_exact, member_exact, corrupt_member_exact, corrupt_server_exact, honest_server_exact, honest_client_exact, place_or_first_exact}
use Rattle.dn_script.proofs.LineLaws.{one_exact, then_exact, every_exact, kind_knows, once_knows, has_some, calm_from, IsSound, not_again}

-- the words that spell a line are read as it
pub record IsKnown (c : Context) (line : ScriptLine) : Type 0 where
  pub word : List ℕ
  pub fields : List (List ℕ)
  pub spelled : line_words line ≡ word ∷ fields
  pub known : is_word word ≡ true
  pub calm : is_misplaced c word fields ≡ false
  pub read : read_kind (kinds_of c.form c) word fields ≡ Ok line

-- ---- first lines

module _ (c : Context) (unended : c.ended ≡ false) (none : c.form ≡ forms.Nothing) where
  opening : (word : List ℕ) (fields : List (List ℕ)) (line : ScriptLine) → line_words line ≡ word ∷ fields → is_listed opening_words word ≡ true
      → (bytes_eq word (codes "corrupt") && not c.after_group) ≡ false → read_kind opening_kinds word fields ≡ Ok line → IsKnown c line
  opening word fields line spelled listed other read = record {
    word = word;
    fields = fields;
    spelled = spelled;
    known = rw listed refl;
    calm = calm_from c word fields (record { listed = rw none listed; unended = unended; corrupt = other; new = rw none refl });
    read = rw none read;
  }

  plain_known : (n m b : ℕ) (s : List ℕ) → Stands c (lines.Plain n m b s) → IsKnown c (lines.Plain n m b s)
  unfolding read_plain
  plain_known n m b s stands =
      opening (codes "plain") (decimal n ∷ decimal m ∷ decimal b ∷ hex_text s ∷ []) (lines.Plain n m b s) refl refl refl
      (kind_knows (within 1 MAX_CLIENTS ▹ within 1 MAX_SERVERS ▹ within 1 MAX_BITS ▹ one seed) (λ x. lines.Plain x.0 x.1.0 x.1.1.0 x.1.1.1) true (then_exact (within 1 MAX_CLIENTS) (within 1 MAX_SERVERS ▹ within 1 MAX_BITS ▹ one seed) (within_exact 1 MAX_CLIENTS (omega arith)) (then_exact (within 1 MAX_SERVERS) (within 1 MAX_BITS ▹ one seed) (within_exact 1 MAX_SERVERS (omega arith)) (then_exact (within 1 MAX_BITS) (one seed) (within_exact 1 MAX_BITS (omega arith)) (one_exact seed seed_exact)))) (n, (m, (b, s))) (stands.1, (stands.2, (stands.3, stands.4))) refl)

  group_known : (v n m ots clms slms : ℕ) (s : List ℕ) → Stands c (lines.Group v n m ots clms slms s) → IsKnown c (lines.Group v n m ots clms slms s)
  unfolding read_group
  group_known v n m ots clms slms s stands =
      let Known : ℕ → Type 0 = λ w. IsKnown c (lines.Group w n m ots clms slms s) in
      elim (cases_eq v 1) [
        | inl first ↦
            subst Known (sym first)
            (opening (codes "group1") (decimal n ∷ decimal m ∷ decimal ots ∷ decimal clms ∷ decimal slms ∷ hex_text s ∷ []) (lines.Group 1 n m ots clms slms s) refl refl refl (kind_knows (within 1 MAX_CLIENTS ▹ within 1 MAX_SERVERS ▹ within 1 4 ▹ within 5 6 ▹ within 5 7 ▹ one seed) (λ x. lines.Group 1 x.0 x.1.0 x.1.1.0 x.1.1.1.0 x.1.1.1.1.0 x.1.1.1.1.1) true (then_exact (within 1 MAX_CLIENTS) (within 1 MAX_SERVERS ▹ within 1 4 ▹ within 5 6 ▹ within 5 7 ▹ one seed) (within_exact 1 MAX_CLIENTS (omega arith)) (then_exact (within 1 MAX_SERVERS) (within 1 4 ▹ within 5 6 ▹ within 5 7 ▹ one seed) (within_exact 1 MAX_SERVERS (omega arith)) (then_exact (within 1 4) (within 5 6 ▹ within 5 7 ▹ one seed) (within_exact 1 4 (omega arith)) (then_exact (within 5 6) (within 5 7 ▹ one seed) (within_exact 5 6 (omega arith)) (then_exact (within 5 7) (one seed) (within_exact 5 7 (omega arith)) (one_exact seed seed_exact)))))) (n, (m, (ots, (clms, (slms, s))))) (stands.2, (stands.3, (stands.4, (stands.5, (stands.6, stands.7))))) refl))
        | inr other ↦
            let second : v ≡ 2 = omega (arith, stands.1.0, stands.1.1) in
            subst Known (sym second)
            (opening (codes "group") (decimal n ∷ decimal m ∷ decimal ots ∷ decimal clms ∷ decimal slms ∷ hex_text s ∷ []) (lines.Group 2 n m ots clms slms s) refl refl refl (kind_knows (within 1 MAX_CLIENTS ▹ within 1 MAX_SERVERS ▹ within 1 4 ▹ within 5 6 ▹ within 5 7 ▹ one seed) (λ x. lines.Group 2 x.0 x.1.0 x.1.1.0 x.1.1.1.0 x.1.1.1.1.0 x.1.1.1.1.1) true (then_exact (within 1 MAX_CLIENTS) (within 1 MAX_SERVERS ▹ within 1 4 ▹ within 5 6 ▹ within 5 7 ▹ one seed) (within_exact 1 MAX_CLIENTS (omega arith)) (then_exact (within 1 MAX_SERVERS) (within 1 4 ▹ within 5 6 ▹ within 5 7 ▹ one seed) (within_exact 1 MAX_SERVERS (omega arith)) (then_exact (within 1 4) (within 5 6 ▹ within 5 7 ▹ one seed) (within_exact 1 4 (omega arith)) (then_exact (within 5 6) (within 5 7 ▹ one seed) (within_exact 5 6 (omega arith)) (then_exact (within 5 7) (one seed) (within_exact 5 7 (omega arith)) (one_exact seed seed_exact)))))) (n, (m, (ots, (clms, (slms, s))))) (stands.2, (stands.3, (stands.4, (stands.5, (stands.6, stands.7))))) refl))
      ]

-- ---- lines of plain scripts

module _ (c : Context) (unended : c.ended ≡ false) (begun : c.form ≡ forms.Plain) (few : c.clients < 2 ^ 64) where
  of_plain : (word : List ℕ) (fields : List (List ℕ)) (line : ScriptLine) → line_words line ≡ word ∷ fields → is_listed plain_words word ≡ true → is_word word ≡ true
      → (bytes_eq word (codes "corrupt") && not c.after_group) ≡ false → speaks_again forms.Plain c word fields ≡ false
      → read_kind (plain_kinds c.clients c.bits) word fields ≡ Ok line → IsKnown c line
  of_plain word fields line spelled listed known other new read = record {
    word = word;
    fields = fields;
    spelled = spelled;
    known = known;
    calm = calm_from c word fields (record { listed = rw begun listed; unended = unended; corrupt = other; new = rw begun new });
    read = rw begun read;
  }

  plain_say_known : (i : ClientId) (message : List ℕ) → Stands c (lines.PlainSay i message) → IsKnown c (lines.PlainSay i message)
  unfolding read_plain_say
  plain_say_known i message stands =
      of_plain (codes "say") (decimal i.0 ∷ hex_text message ∷ []) (lines.PlainSay i message) refl refl refl refl (not_again c.said i (hex_text message ∷ []) (omega (arith, stands.1)) ∙ stands.2)
      (kind_knows (client_number c.clients ▹ one (bits c.bits)) (λ x. lines.PlainSay x.0 x.1) true (then_exact (client_number c.clients) (one (bits c.bits)) (client_number_exact c.clients few) (one_exact (bits c.bits) (bits_exact c.bits))) (i, message) ((omega arith, omega (arith, stands.1)), (stands.3, stands.4)) refl)

  plain_submit_known : (i : ClientId) → Stands c (lines.PlainSubmit i) → IsKnown c (lines.PlainSubmit i)
  unfolding read_plain_submit
  plain_submit_known i stands =
      of_plain (codes "submit") (decimal i.0 ∷ []) (lines.PlainSubmit i) refl refl refl refl refl
      (kind_knows (one (client_number c.clients)) (λ x. lines.PlainSubmit x) true (one_exact (client_number c.clients) (client_number_exact c.clients few)) i (omega arith, omega (arith, stands.1)) refl)

  plain_tick_known : (k : ℕ) → IsIn 1 MAX_TICKS k → IsKnown c (lines.Tick k)
  unfolding read_tick
  plain_tick_known k fits =
      of_plain (codes "tick") (decimal k ∷ []) (lines.Tick k) refl refl refl refl refl (kind_knows (one (within 1 MAX_TICKS)) (λ x. lines.Tick x) true (one_exact (within 1 MAX_TICKS) (within_exact 1 MAX_TICKS (omega arith))) k fits refl)

  plain_close_known : IsKnown c lines.PlainClose
  plain_close_known = of_plain (codes "close") [] lines.PlainClose refl refl refl refl refl refl

  plain_end_known : IsKnown c lines.End
  plain_end_known = of_plain (codes "end") [] lines.End refl refl refl refl refl refl

-- ---- lines of group scripts

module _ (c : Context) (unended : c.ended ≡ false) (begun : c.form ≡ forms.Group) (few : c.clients < 2 ^ 64) (some : c.servers < 2 ^ 64) where
  of_group : (word : List ℕ) (fields : List (List ℕ)) (line : ScriptLine) → line_words line ≡ word ∷ fields → is_listed group_words word ≡ true → is_word word ≡ true
      → (bytes_eq word (codes "corrupt") && not c.after_group) ≡ false → read_kind (group_kinds (group_in c)) word fields ≡ Ok line → IsKnown c line
  of_group word fields line spelled listed known other read = record {
    word = word;
    fields = fields;
    spelled = spelled;
    known = known;
    calm = calm_from c word fields (record { listed = rw begun listed; unended = unended; corrupt = other; new = rw begun refl });
    read = rw begun read;
  }

  corrupt_known : (members : List Member) → Stands c (lines.Corrupt members) → IsKnown c (lines.Corrupt members)
  unfolding read_corrupt
  corrupt_known [] stands = absurd (omega (arith, stands.2))
  corrupt_known (m ∷ members) stands =
      of_group (codes "corrupt") (map member_text (m ∷ members)) (lines.Corrupt (m ∷ members)) refl refl refl (not_from_true c.after_group stands.1)
      (let some_field = has_some (member_text m) (map member_text members) in
      rw (some_field, once_knows (group_in c) (member_exact (group_in c) few some) (m ∷ members) 1 [] stands.3 stands.4) refl)

  say_known : (i : ClientId) (text : List ℕ) → Stands c (lines.Say i text) → IsKnown c (lines.Say i text)
  unfolding read_say
  say_known i text stands =
      of_group (codes "say") (client_text i ∷ hex_text text ∷ []) (lines.Say i text) refl refl refl refl
      (kind_knows (client_in (group_in c) ▹ one (bytes_within 0 MAX_TEXT)) (λ x. lines.Say x.0 x.1) true (then_exact (client_in (group_in c)) (one (bytes_within 0 MAX_TEXT)) (client_exact (group_in c) few) (one_exact (bytes_within 0 MAX_TEXT) (bytes_within_exact 0 MAX_TEXT))) (i, text) (stands.1, stands.2) refl)

  open_known : (j : ServerId) (r : Round) → Stands c (lines.Open j r) → IsKnown c (lines.Open j r)
  unfolding read_open
  open_known j r stands =
      of_group (codes "open") (server_text j ∷ decimal r.0 ∷ []) (lines.Open j r) refl refl refl refl
      (kind_knows (server_in (group_in c) ▹ one round) (λ x. lines.Open x.0 x.1) true (then_exact (server_in (group_in c)) (one round) (server_exact (group_in c) some) (one_exact round round_exact)) (j, r) (stands.1, stands.2) refl)

  close_known : (j : ServerId) → Stands c (lines.Close j) → IsKnown c (lines.Close j)
  unfolding read_close
  close_known j stands =
      of_group (codes "close") (server_text j ∷ []) (lines.Close j) refl refl refl refl
      (kind_knows (one (server_in (group_in c))) (λ x. lines.Close x) true (one_exact (server_in (group_in c)) (server_exact (group_in c) some)) j stands.1 refl)

  abandon_known : (j : ServerId) → Stands c (lines.Abandon j) → IsKnown c (lines.Abandon j)
  unfolding read_abandon
  abandon_known j stands =
      of_group (codes "abandon") (server_text j ∷ []) (lines.Abandon j) refl refl refl refl
      (kind_knows (one (server_in (group_in c))) (λ x. lines.Abandon x) true (one_exact (server_in (group_in c)) (server_exact (group_in c) some)) j stands.1 refl)

  submit_known : (i : ClientId) (j : ServerId) (r : Round) → Stands c (lines.Submit i j r) → IsKnown c (lines.Submit i j r)
  unfolding read_submit
  submit_known i j r stands =
      of_group (codes "submit") (client_text i ∷ server_text j ∷ decimal r.0 ∷ []) (lines.Submit i j r) refl refl refl refl
      (kind_knows (client_in (group_in c) ▹ server_in (group_in c) ▹ one round) (λ x. lines.Submit x.0 x.1.0 x.1.1) true (then_exact (client_in (group_in c)) (server_in (group_in c) ▹ one round) (client_exact (group_in c) few) (then_exact (server_in (group_in c)) (one round) (server_exact (group_in c) some) (one_exact round round_exact))) (i, (j, r)) (stands.1, (stands.2, stands.3)) refl)

  deliver_known : (id : ℕ) → Stands c (lines.Deliver id) → IsKnown c (lines.Deliver id)
  unfolding read_deliver
  deliver_known id stands =
      of_group (codes "deliver") (decimal id ∷ []) (lines.Deliver id) refl refl refl refl
      (kind_knows (one any_number) (λ x. lines.Deliver x) true (one_exact any_number any_number_exact) id stands.1 refl)

  lose_known : (id : ℕ) → Stands c (lines.Lose id) → IsKnown c (lines.Lose id)
  unfolding read_lose
  lose_known id stands =
      of_group (codes "lose") (decimal id ∷ []) (lines.Lose id) refl refl refl refl
      (kind_knows (one any_number) (λ x. lines.Lose x) true (one_exact any_number any_number_exact) id stands.1 refl)

  cut_known : (m : Member) (n : Member) → Stands c (lines.Cut m n) → IsKnown c (lines.Cut m n)
  unfolding read_cut
  cut_known m n stands =
      of_group (codes "cut") (member_text m ∷ member_text n ∷ []) (lines.Cut m n) refl refl refl refl
      (kind_knows (member_in (group_in c) ▹ one (member_in (group_in c))) (λ x. lines.Cut x.0 x.1) true (then_exact (member_in (group_in c)) (one (member_in (group_in c))) (member_exact (group_in c) few some) (one_exact (member_in (group_in c)) (member_exact (group_in c) few some))) (m, n) (stands.1, stands.2) refl)

  flow_known : (k : ℕ) → Stands c (lines.Flow k) → IsKnown c (lines.Flow k)
  unfolding read_flow
  flow_known k stands =
      of_group (codes "flow") (decimal k ∷ []) (lines.Flow k) refl refl refl refl
      (kind_knows (one (within 1 MAX_FLOW)) (λ x. lines.Flow x) true (one_exact (within 1 MAX_FLOW) (within_exact 1 MAX_FLOW (omega arith))) k stands.1 refl)

  tick_known : (k : ℕ) → Stands c (lines.Tick k) → IsKnown c (lines.Tick k)
  unfolding read_tick
  tick_known k stands =
      of_group (codes "tick") (decimal k ∷ []) (lines.Tick k) refl refl refl refl
      (kind_knows (one (within 1 MAX_TICKS)) (λ x. lines.Tick x) true (one_exact (within 1 MAX_TICKS) (within_exact 1 MAX_TICKS (omega arith))) k stands.1 refl)

  leave_known : (i : ClientId) → Stands c (lines.Leave i) → IsKnown c (lines.Leave i)
  unfolding read_leave
  leave_known i stands =
      of_group (codes "leave") (client_text i ∷ []) (lines.Leave i) refl refl refl refl
      (kind_knows (one (client_in (group_in c))) (λ x. lines.Leave x) true (one_exact (client_in (group_in c)) (client_exact (group_in c) few)) i stands.1 refl)

  accuse_known : (i : ClientId) (r : Round) (k : Option ℕ) → Stands c (lines.Accuse i r k) → IsKnown c (lines.Accuse i r k)
  unfolding read_accuse
  accuse_known i r k stands =
      of_group (codes "accuse") (client_text i ∷ decimal r.0 ∷ place_text k ∷ []) (lines.Accuse i r k) refl refl refl refl
      (kind_knows (client_in (group_in c) ▹ round ▹ one place_or_first) (λ x. lines.Accuse x.0 x.1.0 x.1.1) true (then_exact (client_in (group_in c)) (round ▹ one place_or_first) (client_exact (group_in c) few) (then_exact round (one place_or_first) round_exact (one_exact place_or_first place_or_first_exact))) (i, (r, k)) (stands.1, (stands.2, stands.3)) refl)

  live_known : (t : ℕ) → Stands c (lines.Live t) → IsKnown c (lines.Live t)
  unfolding read_live
  live_known t stands =
      of_group (codes "live") (decimal t ∷ []) (lines.Live t) refl refl refl refl
      (kind_knows (one (within 1 MAX_LIVE_TURNS)) (λ x. lines.Live x) true (one_exact (within 1 MAX_LIVE_TURNS) (within_exact 1 MAX_LIVE_TURNS (omega arith))) t stands.1 refl)

  inject_known : (m : Member) (to : Member) (bytes : List ℕ) → Stands c (lines.Inject m to bytes) → IsKnown c (lines.Inject m to bytes)
  unfolding read_inject
  inject_known m to bytes stands =
      of_group (codes "inject") (member_text m ∷ member_text to ∷ hex_text bytes ∷ []) (lines.Inject m to bytes) refl refl refl refl
      (kind_knows (corrupt_member (group_in c) ▹ member_in (group_in c) ▹ one any_bytes) (λ x. lines.Inject x.0 x.1.0 x.1.1) true (then_exact (corrupt_member (group_in c)) (member_in (group_in c) ▹ one any_bytes) (corrupt_member_exact (group_in c) few some) (then_exact (member_in (group_in c)) (one any_bytes) (member_exact (group_in c) few some) (one_exact any_bytes any_bytes_exact))) (m, (to, bytes)) (stands.1, (stands.2, stands.3)) refl)

  speak_known : (m : Member) (to : Member) (bytes : List ℕ) → Stands c (lines.Speak m to bytes) → IsKnown c (lines.Speak m to bytes)
  unfolding read_speak
  speak_known m to bytes stands =
      of_group (codes "speak") (member_text m ∷ member_text to ∷ hex_text bytes ∷ []) (lines.Speak m to bytes) refl refl refl refl
      (kind_knows (corrupt_member (group_in c) ▹ member_in (group_in c) ▹ one any_bytes) (λ x. lines.Speak x.0 x.1.0 x.1.1) true (then_exact (corrupt_member (group_in c)) (member_in (group_in c) ▹ one any_bytes) (corrupt_member_exact (group_in c) few some) (then_exact (member_in (group_in c)) (one any_bytes) (member_exact (group_in c) few some) (one_exact any_bytes any_bytes_exact))) (m, (to, bytes)) (stands.1, (stands.2, stands.3)) refl)

  replay_known : (p : ℕ) (to : Member) → Stands c (lines.Replay p to) → IsKnown c (lines.Replay p to)
  unfolding read_replay
  replay_known p to stands =
      of_group (codes "replay") (decimal p ∷ member_text to ∷ []) (lines.Replay p to) refl refl refl refl
      (kind_knows (any_number ▹ one (member_in (group_in c))) (λ x. lines.Replay x.0 x.1) true (then_exact any_number (one (member_in (group_in c))) any_number_exact (one_exact (member_in (group_in c)) (member_exact (group_in c) few some))) (p, to) (stands.1, stands.2) refl)

  lure_known : (j : ServerId) (i : ClientId) (r : Round) → Stands c (lines.Lure j i r) → IsKnown c (lines.Lure j i r)
  unfolding read_lure
  lure_known j i r stands =
      of_group (codes "lure") (server_text j ∷ client_text i ∷ decimal r.0 ∷ []) (lines.Lure j i r) refl refl refl refl
      (kind_knows (corrupt_server (group_in c) ▹ client_in (group_in c) ▹ one round) (λ x. lines.Lure x.0 x.1.0 x.1.1) true (then_exact (corrupt_server (group_in c)) (client_in (group_in c) ▹ one round) (corrupt_server_exact (group_in c) some) (then_exact (client_in (group_in c)) (one round) (client_exact (group_in c) few) (one_exact round round_exact))) (j, (i, r)) (stands.1, (stands.2, stands.3)) refl)

  complete_known : (j : ServerId) (r : Round) → Stands c (lines.Complete j r) → IsKnown c (lines.Complete j r)
  unfolding read_complete
  complete_known j r stands =
      of_group (codes "complete") (server_text j ∷ decimal r.0 ∷ []) (lines.Complete j r) refl refl refl refl
      (kind_knows (corrupt_server (group_in c) ▹ one round) (λ x. lines.Complete x.0 x.1) true (then_exact (corrupt_server (group_in c)) (one round) (corrupt_server_exact (group_in c) some) (one_exact round round_exact)) (j, r) (stands.1, stands.2) refl)

  race_known : (j : ServerId) (w : ℕ) (clients : List Member) → Stands c (lines.Race j w clients) → IsKnown c (lines.Race j w clients)
  unfolding read_race
  race_known j w clients stands =
      let fields = server_text j ∷ decimal w ∷ map member_text clients in
      let count = length fields in
      let low : nat_le 3 count ≡ true = le-leb 3 count (omega (arith, stands.3.0, length-map clients member_text)) in
      let high : nat_le count (MAX_RACE_LIST + 2) ≡ true = le-leb count (MAX_RACE_LIST + 2) (omega (arith, stands.3.1, length-map clients member_text)) in
      of_group (codes "race") fields (lines.Race j w clients) refl refl refl refl
      (kind_knows (honest_server (group_in c) ▹ within 1 MAX_RACE_WORKERS ▹ every (honest_client (group_in c))) (λ x. lines.Race x.0 x.1.0 x.1.1) (has 3 (MAX_RACE_LIST + 2) fields)
      (then_exact (honest_server (group_in c)) (within 1 MAX_RACE_WORKERS ▹ every (honest_client (group_in c))) (honest_server_exact (group_in c) some) (then_exact (within 1 MAX_RACE_WORKERS) (every (honest_client (group_in c))) (within_exact 1 MAX_RACE_WORKERS (omega arith)) (every_exact (honest_client (group_in c)) (honest_client_exact (group_in c) few)))) (j, (w, clients)) (stands.1, (stands.2, stands.4)) (rw (low, high) refl))

  judge_known : (r : Round) (k : Option ℕ) → Stands c (lines.Judge r k) → IsKnown c (lines.Judge r k)
  unfolding read_judge
  judge_known r None stands =
      of_group (codes "judge") (decimal r.0 ∷ []) (lines.Judge r None) refl refl refl refl (rw ((one_exact round round_exact).knows 1 r stands.1) refl)
  judge_known r (Some k) stands =
      of_group (codes "judge") (decimal r.0 ∷ decimal k ∷ []) (lines.Judge r (Some k)) refl refl refl refl
      (kind_knows (round ▹ one place) (λ x. lines.Judge x.0 (Some x.1)) true (then_exact round (one place) round_exact (one_exact place place_exact)) (r, k) (stands.1, (omega arith, omega (arith, stands.2))) refl)

  twist_known : (m : Member) (t : Twist) → Stands c (lines.Twist m t) → IsKnown c (lines.Twist m t)
  unfolding read_twist_of
  twist_known m (twists.Flip k) stands =
      of_group (codes "twist") (member_text m ∷ codes "flip" ∷ decimal k ∷ []) (lines.Twist m (twists.Flip k)) refl refl refl refl
      (rw ((corrupt_member_exact (group_in c) few some).knows m stands.1, (one_exact place place_exact).knows 3 k (omega arith, omega (arith, stands.2))) refl)
  twist_known m (twists.Jam i) stands =
      of_group (codes "twist") (member_text m ∷ codes "jam" ∷ client_text i ∷ []) (lines.Twist m (twists.Jam i)) refl refl refl refl
      (rw ((corrupt_member_exact (group_in c) few some).knows m stands.1, (one_exact (client_in (group_in c)) (client_exact (group_in c) few)).knows 3 i stands.2) refl)
  twist_known m (twists.Reveal k) stands =
      of_group (codes "twist") (member_text m ∷ codes "reveal" ∷ decimal k ∷ []) (lines.Twist m (twists.Reveal k)) refl refl refl refl
      (rw ((corrupt_member_exact (group_in c) few some).knows m stands.1, stands.2.0, (one_exact place place_exact).knows 3 k (omega arith, omega (arith, stands.2.1))) refl)
  twist_known m (twists.Frame i) stands =
      of_group (codes "twist") (member_text m ∷ codes "frame" ∷ client_text i ∷ []) (lines.Twist m (twists.Frame i)) refl refl refl refl
      (rw ((corrupt_member_exact (group_in c) few some).knows m stands.1, stands.2.0, (one_exact (client_in (group_in c)) (client_exact (group_in c) few)).knows 3 i stands.2.1) refl)
  twist_known m twists.Mute stands =
      of_group (codes "twist") (member_text m ∷ codes "mute" ∷ []) (lines.Twist m twists.Mute) refl refl refl refl
      (rw ((corrupt_member_exact (group_in c) few some).knows m stands.1) refl)

  group_end_known : IsKnown c lines.End
  group_end_known = of_group (codes "end") [] lines.End refl refl refl refl refl

-- ---- all of them

pub line_known : (c : Context) → IsSound c → c.ended ≡ false → (line : ScriptLine) → Stands c line → IsKnown c line
line_known c sound unended (lines.Plain n m b s) stands =
    plain_known c unended stands.0 n m b s stands
line_known c sound unended (lines.PlainSay i message) stands =
    plain_say_known c unended stands.0 (omega (arith, sound.clients)) i message stands
line_known c sound unended (lines.PlainSubmit i) stands =
    plain_submit_known c unended stands.0 (omega (arith, sound.clients)) i stands
line_known c sound unended lines.PlainClose stands =
    plain_close_known c unended stands (omega (arith, sound.clients))
line_known c sound unended (lines.Group v n m ots clms slms s) stands =
    group_known c unended stands.0 v n m ots clms slms s stands
line_known c sound unended (lines.Corrupt members) stands =
    corrupt_known c unended stands.0 (omega (arith, sound.clients)) (omega (arith, sound.servers)) members stands
line_known c sound unended (lines.Say i text) stands =
    say_known c unended stands.0 (omega (arith, sound.clients)) (omega (arith, sound.servers)) i text stands
line_known c sound unended (lines.Open j r) stands =
    open_known c unended stands.0 (omega (arith, sound.clients)) (omega (arith, sound.servers)) j r stands
line_known c sound unended (lines.Close j) stands =
    close_known c unended stands.0 (omega (arith, sound.clients)) (omega (arith, sound.servers)) j stands
line_known c sound unended (lines.Abandon j) stands =
    abandon_known c unended stands.0 (omega (arith, sound.clients)) (omega (arith, sound.servers)) j stands
line_known c sound unended (lines.Submit i j r) stands =
    submit_known c unended stands.0 (omega (arith, sound.clients)) (omega (arith, sound.servers)) i j r stands
line_known c sound unended (lines.Deliver id) stands =
    deliver_known c unended stands.0 (omega (arith, sound.clients)) (omega (arith, sound.servers)) id stands
line_known c sound unended (lines.Lose id) stands =
    lose_known c unended stands.0 (omega (arith, sound.clients)) (omega (arith, sound.servers)) id stands
line_known c sound unended (lines.Cut m n) stands =
    cut_known c unended stands.0 (omega (arith, sound.clients)) (omega (arith, sound.servers)) m n stands
line_known c sound unended (lines.Flow k) stands =
    flow_known c unended stands.0 (omega (arith, sound.clients)) (omega (arith, sound.servers)) k stands
line_known c sound unended (lines.Tick k) stands =
    elim stands.0 [
      | inl plain ↦ plain_tick_known c unended plain (omega (arith, sound.clients)) k stands.1
      | inr group ↦ tick_known c unended group (omega (arith, sound.clients)) (omega (arith, sound.servers)) k stands
    ]
line_known c sound unended (lines.Leave i) stands =
    leave_known c unended stands.0 (omega (arith, sound.clients)) (omega (arith, sound.servers)) i stands
line_known c sound unended (lines.Accuse i r k) stands =
    accuse_known c unended stands.0 (omega (arith, sound.clients)) (omega (arith, sound.servers)) i r k stands
line_known c sound unended (lines.Live t) stands =
    live_known c unended stands.0 (omega (arith, sound.clients)) (omega (arith, sound.servers)) t stands
line_known c sound unended (lines.Inject m to bytes) stands =
    inject_known c unended stands.0 (omega (arith, sound.clients)) (omega (arith, sound.servers)) m to bytes stands
line_known c sound unended (lines.Speak m to bytes) stands =
    speak_known c unended stands.0 (omega (arith, sound.clients)) (omega (arith, sound.servers)) m to bytes stands
line_known c sound unended (lines.Replay p to) stands =
    replay_known c unended stands.0 (omega (arith, sound.clients)) (omega (arith, sound.servers)) p to stands
line_known c sound unended (lines.Lure j i r) stands =
    lure_known c unended stands.0 (omega (arith, sound.clients)) (omega (arith, sound.servers)) j i r stands
line_known c sound unended (lines.Complete j r) stands =
    complete_known c unended stands.0 (omega (arith, sound.clients)) (omega (arith, sound.servers)) j r stands
line_known c sound unended (lines.Judge r k) stands =
    judge_known c unended stands.0 (omega (arith, sound.clients)) (omega (arith, sound.servers)) r k stands
line_known c sound unended (lines.Race j w clients) stands =
    race_known c unended stands.0 (omega (arith, sound.clients)) (omega (arith, sound.servers)) j w clients stands
line_known c sound unended (lines.Twist m t) stands =
    twist_known c unended stands.0 (omega (arith, sound.clients)) (omega (arith, sound.servers)) m t stands
line_known c sound unended lines.End stands =
    elim stands [
      | inl plain ↦ plain_end_known c unended plain (omega (arith, sound.clients))
      | inr group ↦ group_end_known c unended group (omega (arith, sound.clients)) (omega (arith, sound.servers))
    ]
