-- What was opened, and what the payloads of a report carry.
use Rattle.std.proofs.Common.{◌≡◌, ◌<◌, ◌+◌, ℕ, zero, suc, get_or, take, List, [], ◌∷◌, ◌++◌, length, Some, None, Ok, sym, ap, ◌∙◌, subst, refl}
use Rattle.std.specs.Prelude.{Option, Result, map, option_map, option_to_list, slice_get}
use Rattle.std.specs.List.{AllZip, cons_option}
use Rattle.std.proofs.lemmas.List.{take_more}
use Rattle.std.proofs.lemmas.List.Elements.{filter_map-append}
use Rattle.dn_report.specs.declared.line.ReportLine.{ReportLine}
use Rattle.dn_verify.specs.Steps.{posted_bytes, posts_of}
use Rattle.dn_wire.specs.declared.ids.ClientId.{ClientId}
use Rattle.dn_wire.specs.declared.ids.ServerId.{ServerId}
use Rattle.dn_wire.specs.declared.ids.Round.{Round}
use Rattle.dn_wire.specs.declared.ids.Member.{Member}
use Rattle.dn_records.specs.Records.{payload_of, payload_bytes, IsPayload}
use Rattle.dn_record_types.proofs.RecordLaws.{payload_again}
use Rattle.dn_record_types.specs.declared.fault.RecordFault.{RecordFault}
use Rattle.dn_record_types.specs.declared.payload.Payload.{Payload}
use Rattle.dn_record_types.specs.declared.payload.Payload.TheVariants as payloads
use Rattle.dn_record_types.specs.declared.statement.WordTold.{WordTold}
use Rattle.dn_roster.specs.Roster.{RosterView}
use Rattle.dn_seal.specs.Said.{SaidView}
use Rattle.dn_seal.proofs.SaidLemmas.{one_said}
use Rattle.dn_cert.specs.Opening.{IsOpened, IsOpenedEnvelope}
use Rattle.dn_cert.specs.declared.opened.Opened.{Opened}
use Rattle.dn_cert.specs.declared.opened.Opened.TheVariants as opened
use Rattle.dn_verify.specs.declared.content.Content.{Content}
use Rattle.dn_verify.specs.declared.content.Content.TheVariants.{Open, Closed}
use Rattle.dn_verify.specs.Judged.{ContentSays, body_of, word_lines, word_of}
use Rattle.dn_verify.specs.Known.{closed_lines}
use Rattle.dn_verify.specs.Payloads.{Report, Carried, body_in, carried_in, IsCarried, Opens, Carries, CarriesSome, IsContent, AreContents, IsSubmissionOf, IsReceiptOf, IsCertificateFor, IsOwn, IsOwnWord}

-- two payloads were opened to the same
abbrev Alike : Opened → Opened → Type 0
Alike (opened.Submission c said) (opened.Submission d other) = said ≡ other
Alike (opened.Plain said) (opened.Plain other) = said ≡ other
Alike (opened.Certificate c) (opened.Certificate d) = c.body ≡ d.body
Alike (opened.Challenge c) (opened.Challenge d) = Unit {0}
Alike _ _ = ⊥

one_envelope : (roster : RosterView) (e : List ℕ) (said other : SaidView) → IsOpenedEnvelope roster e said → IsOpenedEnvelope roster e other → said ≡ other
one_envelope roster e said other h k = one_said roster said other h.0 k.0 h.1 k.1 (h.2 ∙ sym k.2)

alike : (roster : RosterView) (p : Payload) (x y : Opened) → IsOpened roster p x → IsOpened roster p y → Alike x y
alike roster (payloads.Submission cipher e) (opened.Submission c said) (opened.Submission d other) h k = one_envelope roster e said other h.1 k.1
alike roster (payloads.Plain e) (opened.Plain said) (opened.Plain other) h k = one_envelope roster e said other h k
alike roster (payloads.Certificate b s) (opened.Certificate c) (opened.Certificate d) h k = h.2 ∙ sym k.2
alike roster (payloads.Challenge r k es) (opened.Challenge c) (opened.Challenge d) h l = tt
alike roster (payloads.Submission cipher e) (opened.Submission c said) y h k = absurd k
alike roster (payloads.Plain e) (opened.Plain said) y h k = absurd k
alike roster (payloads.Certificate b s) (opened.Certificate c) y h k = absurd k
alike roster (payloads.Challenge r k es) (opened.Challenge c) y h l = absurd l
alike roster p x y h k = absurd h

ok_is : (p q : Payload) (r : Result Payload RecordFault) → r ≡ Ok p → r ≡ Ok q → p ≡ q
ok_is p q r e f = cc

opens_alike : (roster : RosterView) (bytes : List ℕ) (x y : Opened) → Opens roster bytes x → Opens roster bytes y → Alike x y
opens_alike roster bytes x y h k =
    let same : h.0 ≡ k.0 = ok_is h.0 k.0 (payload_of bytes) (ap payload_of h.2 ∙ payload_again h.0 h.1) (ap payload_of k.2 ∙ payload_again k.0 k.1) in
    alike roster k.0 x y (subst (λ (p : Payload). IsOpened roster p x) same h.3) k.3

-- the fact is one of what was said, or of the body
pub record Respects (Q : Opened → Type 0) : Type 0 where
  pub moves : (x y : Opened) → Alike x y → Q y → Q x

pub submission_respects : (client : ClientId) (r : Round) (digest : List ℕ) → Respects (IsSubmissionOf client r digest)
submission_respects client r digest = record { moves = moves } where
  moves : (x y : Opened) → Alike x y → IsSubmissionOf client r digest y → IsSubmissionOf client r digest x
  moves (opened.Submission c said) (opened.Submission d other) same q = (q.0, ap (λ (s : SaidView). s.statement) same ∙ q.1)
  moves x (opened.Submission d other) same q = absurd same
  moves x (opened.Plain said) same q = absurd q
  moves x (opened.Certificate c) same q = absurd q
  moves x (opened.Challenge c) same q = absurd q

pub receipt_respects : (server : ServerId) (client : ClientId) (r : Round) (digest : List ℕ) (word : WordTold) → Respects (IsReceiptOf server client r digest word)
receipt_respects server client r digest word = record { moves = moves } where
  moves : (x y : Opened) → Alike x y → IsReceiptOf server client r digest word y → IsReceiptOf server client r digest word x
  moves (opened.Plain said) (opened.Plain other) same q =
      (ap (λ (s : SaidView). s.signer) same ∙ q.0, ap (λ (s : SaidView). s.statement) same ∙ q.1)
  moves x (opened.Plain other) same q = absurd same
  moves x (opened.Submission d other) same q = absurd q
  moves x (opened.Certificate c) same q = absurd q
  moves x (opened.Challenge c) same q = absurd q

pub certificate_respects : (r : Round) → Respects (IsCertificateFor r)
certificate_respects r = record { moves = moves } where
  moves : (x y : Opened) → Alike x y → IsCertificateFor r y → IsCertificateFor r x
  moves (opened.Certificate c) (opened.Certificate d) same q = ap (λ b. b.r) same ∙ q
  moves x (opened.Certificate d) same q = absurd same
  moves x (opened.Submission d other) same q = absurd q
  moves x (opened.Plain other) same q = absurd q
  moves x (opened.Challenge c) same q = absurd q

pub own_respects : (by : Member) → Respects (IsOwn by)
own_respects by = record { moves = moves } where
  moves : (x y : Opened) → Alike x y → IsOwn by y → IsOwn by x
  moves (opened.Submission c said) (opened.Submission d other) same q = subst (IsOwnWord by) (sym same) q
  moves (opened.Plain said) (opened.Plain other) same q = subst (IsOwnWord by) (sym same) q
  moves (opened.Certificate c) y same q = tt
  moves (opened.Challenge c) y same q = tt
  moves (opened.Submission c said) y same q = absurd same
  moves (opened.Plain said) y same q = absurd same

-- some payload is at the place, and opens to what is so
abbrev OpensAt : RosterView → (Opened → Type 0) → List (List ℕ) → ℕ → Type 0
OpensAt roster Q bs k = (x : Opened) × ((bytes : List ℕ) × (slice_get bs k ≡ Some bytes) × Opens roster bytes x) × Q x

opened_at : (roster : RosterView) (Q : Opened → Type 0) (b : List ℕ) (bs : List (List ℕ)) (c : Content) → IsContent roster b c → ContentSays Q (Some c)
    → OpensAt roster Q (b ∷ bs) 0
opened_at roster Q b bs (Open x) h q = (x, (b, refl, h), q)
opened_at roster Q b bs (Closed word) h q = absurd q

says_at : (roster : RosterView) (Q : Opened → Type 0) (bs : List (List ℕ)) (cs : List Content) (k : ℕ) → AllZip (IsContent roster) bs cs
    → ContentSays Q (slice_get cs k) → OpensAt roster Q bs k
says_at roster Q [] [] k h q = absurd q
says_at roster Q [] (c ∷ cs) k h q = absurd h
says_at roster Q (b ∷ bs) [] k h q = absurd h
says_at roster Q (b ∷ bs) (c ∷ cs) zero h q = opened_at roster Q b bs c h.0 q
says_at roster Q (b ∷ bs) (c ∷ cs) (suc k) h q = says_at roster Q bs cs k h.1 q

some_is : (x y : List ℕ) → Some x ≡ Some y → x ≡ y
some_is x y e = cc

none_is_not : (x : List ℕ) (o : Option (List ℕ)) → o ≡ None → o ≡ Some x → ⊥
none_is_not x o e f = cc

opened_as : (roster : RosterView) (Q : Opened → Type 0) → Respects Q → (b : List ℕ) (c : Content) → IsContent roster b c
    → (x : Opened) → Opens roster b x → Q x → ContentSays Q (Some c)
opened_as roster Q respects b (Open y) h x opens q = respects.moves y x (opens_alike roster b y x h opens) q
opened_as roster Q respects b (Closed word) h x opens q = absurd (h.closed x opens)

carried_at : (roster : RosterView) (Q : Opened → Type 0) → Respects Q → (bs : List (List ℕ)) (cs : List Content) (k : ℕ) → AllZip (IsContent roster) bs cs
    → OpensAt roster Q bs k → ContentSays Q (slice_get cs k)
carried_at roster Q respects [] cs k h o = absurd (none_is_not o.1.0 None refl o.1.1)
carried_at roster Q respects (b ∷ bs) [] k h o = absurd h
carried_at roster Q respects (b ∷ bs) (c ∷ cs) zero h o =
    opened_as roster Q respects b c h.0 o.0 (subst (λ (l : List ℕ). Opens roster l o.0) (sym (some_is b o.1.0 o.1.1)) o.1.2) o.2
carried_at roster Q respects (b ∷ bs) (c ∷ cs) (suc k) h o = carried_at roster Q respects bs cs k h.1 o

pub carried_if_says : (report : Report) (contents : List Content) (payload : ℕ) (Q : Opened → Type 0) → AreContents report contents
    → ContentSays Q (slice_get contents payload) → CarriesSome report payload Q
carried_if_says report contents payload Q h q = says_at report.roster Q report.payloads contents payload h.opened q

pub says_if_carried : (report : Report) (contents : List Content) (payload : ℕ) (Q : Opened → Type 0) → Respects Q → AreContents report contents
    → CarriesSome report payload Q → ContentSays Q (slice_get contents payload)
says_if_carried report contents payload Q respects h q = carried_at report.roster Q respects report.payloads contents payload h.opened q

one_post : (o : Option (List ℕ)) → cons_option o [] ≡ option_to_list o
one_post None = refl
one_post (Some b) = refl

-- one more payload was opened
pub contents-push : (roster : RosterView) (bs : List (List ℕ)) (cs : List Content) (b : List ℕ) (c : Content) → AllZip (IsContent roster) bs cs → IsContent roster b c
    → AllZip (IsContent roster) (bs ++ b ∷ []) (cs ++ c ∷ [])
contents-push roster [] [] b c h k = (k, tt)
contents-push roster [] (d ∷ cs) b c h k = absurd h
contents-push roster (a ∷ bs) [] b c h k = absurd h
contents-push roster (a ∷ bs) (d ∷ cs) b c h k = (h.0, contents-push roster bs cs b c h.1 k)

pub contents-posted : (roster : RosterView) (bs : List (List ℕ)) (cs : List Content) (b : List ℕ) (c : Content) (o : Option (List ℕ)) → o ≡ Some b
    → AllZip (IsContent roster) bs cs → IsContent roster b c → AllZip (IsContent roster) (bs ++ option_to_list o) (cs ++ c ∷ [])
contents-posted roster bs cs b c o is h k =
    subst (λ (x : Option (List ℕ)). AllZip (IsContent roster) (bs ++ option_to_list x) (cs ++ c ∷ [])) (sym is) (contents-push roster bs cs b c h k)

-- the payloads of one line more
pub posts_more : (ls : List ReportLine) (i : ℕ) (l : ReportLine) → i < length ls → l ≡ get_or ls i l
    → posts_of (take (i + 1) ls) ≡ posts_of (take i ls) ++ option_to_list (posted_bytes l)
posts_more ls i l within at =
    let more : take (i + 1) ls ≡ take i ls ++ l ∷ [] = take_more ls i l within ∙ ap (λ (x : ReportLine). take i ls ++ x ∷ []) (sym at) in
    ap posts_of more ∙ filter_map-append posted_bytes (take i ls) (l ∷ [])
    ∙ ap (λ (bs : List (List ℕ)). posts_of (take i ls) ++ bs) (one_post (posted_bytes l))

pub contents-length : (roster : RosterView) (bs : List (List ℕ)) (cs : List Content) → AllZip (IsContent roster) bs cs → length bs ≡ length cs
contents-length roster [] [] h = refl
contents-length roster [] (d ∷ cs) h = absurd h
contents-length roster (a ∷ bs) [] h = absurd h
contents-length roster (a ∷ bs) (d ∷ cs) h = ap (λ (n : ℕ). suc n) (contents-length roster bs cs h.1)

-- what a payload carries, and what it was opened to
at_map : (f : Content → Carried) (cs : List Content) (k : ℕ) → slice_get (map f cs) k ≡ option_map f (slice_get cs k)
at_map f [] k = refl
at_map f (c ∷ cs) zero = refl
at_map f (c ∷ cs) (suc k) = at_map f cs k

pub carried_is : (report : Report) (contents : List Content) (payload : ℕ) → AreContents report contents
    → slice_get report.carried payload ≡ option_map carried_in (slice_get contents payload)
carried_is report contents payload h = ap (λ (cs : List Carried). slice_get cs payload) h.carried ∙ at_map carried_in contents payload

pub are_carried : (roster : RosterView) (bs : List (List ℕ)) (cs : List Content) → AllZip (IsContent roster) bs cs → AllZip (IsCarried roster) bs (map carried_in cs)
are_carried roster [] [] h = tt
are_carried roster [] (c ∷ cs) h = absurd h
are_carried roster (b ∷ bs) [] h = absurd h
are_carried roster (b ∷ bs) (c ∷ cs) h = ((c, h.0, refl), are_carried roster bs cs h.1)

-- the body of a certificate, where one was opened
pub body_is : (report : Report) (contents : List Content) (payload : ℕ) → AreContents report contents
    → body_in (slice_get report.carried payload) ≡ body_of (slice_get contents payload)
body_is report contents payload h = ap body_in (carried_is report contents payload h) ∙ body_same (slice_get contents payload)
  where
    body_same : (o : Option Content) → body_in (option_map carried_in o) ≡ body_of o
    body_same None = refl
    body_same (Some x) = refl

-- the line of a payload that wasn't opened
pub closed_is : (report : Report) (contents : List Content) (payload : ℕ) → AreContents report contents
    → closed_lines (slice_get report.carried payload) ≡ word_lines (word_of (slice_get contents payload))
closed_is report contents payload h = ap closed_lines (carried_is report contents payload h) ∙ closed_same (slice_get contents payload)
  where
    closed_same : (o : Option Content) → closed_lines (option_map carried_in o) ≡ word_lines (word_of o)
    closed_same None = refl
    closed_same (Some (Open (opened.Submission cipher said))) = refl
    closed_same (Some (Open (opened.Plain said))) = refl
    closed_same (Some (Open (opened.Certificate x))) = refl
    closed_same (Some (Open (opened.Challenge x))) = refl
    closed_same (Some (Closed word)) = refl
