-- What an auditor knows that was told of a run is whether the run is clean.
use Rattle.std.proofs.Common.{◌≡◌, ℕ, Bool, List, ◌++◌, refl, sym, ap, ◌∙◌, inl, inr}
use Rattle.std.specs.Prelude.{Contains, ◌↔◌, codes}
use Rattle.dn_wire.specs.declared.ids.SignerId.{SignerId}
use Rattle.dn_bits.specs.Bits.{bytes_of}
use Rattle.dn_hash.specs.Digests.{seed_commitment_of, cipher_digest_of, server_digest_of}
use Rattle.dn_hash.proofs.InputLemmas.{behind_tag}
use Rattle.dn_record_types.specs.declared.statement.Statement.{Statement}
use Rattle.dn_audit.specs.Strings.{Hashed}
use Rattle.dn_audit.specs.Auditor.{AuditorView, RunStrings, NoStringsCollide, hashed_seed, hashed_cipher, hashed_sum}
use Rattle.dn_headline.specs.Group.{seed_of}
use Rattle.dn_headline.specs.Log.{Put}
use Rattle.dn_headline.specs.Run.{RunView, log}
use Rattle.dn_headline.specs.Spoken.{HadSigned}
use Rattle.dn_headline.specs.Strings.{IsSeed, IsCipher, IsSum}
use Rattle.dn_headline.specs.Strings.IsSeed.{dealt, revealed as seed_revealed}
use Rattle.dn_headline.specs.Strings.IsCipher.{submitted as cipher_submitted, shown as cipher_shown}
use Rattle.dn_headline.specs.Strings.IsSum.{made, revealed as sum_revealed, shown as sum_shown}
use Rattle.dn_headline.specs.Clean.{SignaturesAreTheirs, DigestsDiffer}
use Rattle.dn_auditing.specs.Puts.{HadPut, AreTheirs}
use Rattle.dn_auditing.specs.Shows.{ShowsCipher, ShowsSum, AreStringsOf}
use Rattle.dn_auditing.specs.Shows.ShowsCipher.{submitted, shown as shows_cipher}
use Rattle.dn_auditing.specs.Shows.ShowsSum.{revealed, shown as shows_sum}
use Rattle.dn_auditing.specs.Known.{KnowsRun}
use Rattle.dn_auditing.specs.Words.{TellsRight}

-- ---- signatures

had_signed : (w : RunView) (n : ℕ) (who : SignerId) (s : Statement) → HadPut w.group (log w).puts n who s → HadSigned w n who s
had_signed w n who s h = record { at = h.at; by_then = h.by_then; put = h.put; there = h.there; own = h.own; key = h.key; front = h.front }

had_put : (w : RunView) (n : ℕ) (who : SignerId) (s : Statement) → HadSigned w n who s → HadPut w.group (log w).puts n who s
had_put w n who s h = record { at = h.at; by_then = h.by_then; put = h.put; there = h.there; own = h.own; key = h.key; front = h.front }

signatures_so : (w : RunView) → AreTheirs w.group (log w).puts ↔ SignaturesAreTheirs w
signatures_so w = (
  λ h n put who s at honest signed. had_signed w n who s (h n put who s at honest signed),
  λ h n put who s at honest signed. had_put w n who s (h n put who s at honest signed),
)

-- ---- strings

module _ (w : RunView) (x : RunStrings) (are : AreStringsOf w.group (log w).puts w.sums x) where
  -- the run's strings are among these
  seed_there : {i j : ℕ} {seed : List ℕ} → IsSeed w i j seed → Contains x.seeds (hashed_seed i j seed)
  seed_there (dealt i j client server) = (are.seeds (hashed_seed i j (seed_of w.group i j))).1 (inl (i, j, client, server, refl))
  seed_there (seed_revealed i j r k seed envelope said) =
      (are.seeds (hashed_seed i.0 j.0 seed)).1 (inr (
        said.put,
        said.there,
        record { client = i; server = j; r = r; k = k; seed = seed; envelope = envelope; says = said.says; is = refl },
      ))

  cipher_there : {r i : ℕ} {cipher : List Bool} → IsCipher w r i cipher → Contains x.ciphers (hashed_cipher r i cipher)
  cipher_there (cipher_submitted who r prev i digest cipher put) =
      (are.ciphers (hashed_cipher r.0 i.0 cipher)).1 (put.put, put.there, submitted who r prev i digest cipher put.submits refl)
  cipher_there (cipher_shown j r sum ciphers c said among) =
      (are.ciphers (hashed_cipher r.0 c.client.0 c.cipher)).1 (said.put, said.there, shows_cipher j r sum ciphers c said.says among refl)

  sum_there : {r j : ℕ} {sum : List Bool} → IsSum w r j sum → Contains x.sums (hashed_sum r j sum)
  sum_there (made m among) = (are.sums (hashed_sum m.r.0 m.server.0 m.sum)).1 (inl (m, among, refl))
  sum_there (sum_revealed j r sum said) = (are.sums (hashed_sum r.0 j.0 sum)).1 (inr (said.put, said.there, revealed j r sum said.says refl))
  sum_there (sum_shown j r sum ciphers said) = (are.sums (hashed_sum r.0 j.0 sum)).1 (inr (said.put, said.there, shows_sum j r sum ciphers said.says refl))

  -- and no others
  seed_behind : (y : Hashed) → Contains x.seeds y → (i j : ℕ) × (seed : List ℕ) × IsSeed w i j seed × (y ≡ hashed_seed i j seed)
  seed_behind y h = elim ((are.seeds y).0 h) [
    | inl from ↦ (from.0, from.1, seed_of w.group from.0 from.1, dealt from.0 from.1 from.2 from.3, from.4)
    | inr from ↦ let s = from.2 in
        (s.client.0, s.server.0, s.seed, seed_revealed s.client s.server s.r s.k s.seed s.envelope (record { put = from.0; there = from.1; says = s.says }), s.is)
  ]

  cipher_behind : (y : Hashed) → Contains x.ciphers y → (r i : ℕ) × (cipher : List Bool) × IsCipher w r i cipher × (y ≡ hashed_cipher r i cipher)
  cipher_behind y h = let from = (are.ciphers y).0 h in by from.0 from.1 from.2
    where
      by : (p : Put) → Contains (log w).puts p → ShowsCipher w.group.roster p.bytes y → (r i : ℕ) × (cipher : List Bool) × IsCipher w r i cipher × (y ≡ hashed_cipher r i cipher)
      by p there (submitted who r prev i digest cipher submits is) =
          (r.0, i.0, cipher, cipher_submitted who r prev i digest cipher (record { put = p; there = there; submits = submits }), is)
      by p there (shows_cipher j r sum ciphers c says among is) =
          (r.0, c.client.0, c.cipher, cipher_shown j r sum ciphers c (record { put = p; there = there; says = says }) among, is)

  sum_behind : (y : Hashed) → Contains x.sums y → (r j : ℕ) × (sum : List Bool) × IsSum w r j sum × (y ≡ hashed_sum r j sum)
  sum_behind y h = elim ((are.sums y).0 h) [
    | inl from ↦ (from.0.r.0, from.0.server.0, from.0.sum, made from.0 from.1, from.2)
    | inr from ↦ by from.0 from.1 from.2
  ]
    where
      by : (p : Put) → Contains (log w).puts p → ShowsSum w.group.roster p.bytes y → (r j : ℕ) × (sum : List Bool) × IsSum w r j sum × (y ≡ hashed_sum r j sum)
      by p there (revealed j r sum says is) = (r.0, j.0, sum, sum_revealed j r sum (record { put = p; there = there; says = says }), is)
      by p there (shows_sum j r sum ciphers says is) = (r.0, j.0, sum, sum_shown j r sum ciphers (record { put = p; there = there; says = says }), is)

  digests_so : NoStringsCollide x → DigestsDiffer w
  digests_so none = record {
    seeds = λ i j k l s t a b same. ap (λ y. codes "dnseed" ++ y) (none.seeds (hashed_seed i j s) (hashed_seed k l t) (seed_there a) (seed_there b) same);
    ciphers = λ r i q k s t a b same. ap (λ y. codes "dnsub" ++ y) (none.ciphers (hashed_cipher r i s) (hashed_cipher q k t) (cipher_there a) (cipher_there b) same);
    sums = λ r j q k s t a b same. ap (λ y. codes "dnsrv" ++ y) (none.sums (hashed_sum r j s) (hashed_sum q k t) (sum_there a) (sum_there b) same);
  }

  none_collide : DigestsDiffer w → NoStringsCollide x
  none_collide differ = record {
    seeds = λ a b in_a in_b same.
        let p = seed_behind a in_a in
        let q = seed_behind b in_b in
        let digests : seed_commitment_of p.0 p.1 p.2 ≡ seed_commitment_of q.0 q.1 q.2 = sym (ap (λ (h : Hashed). h.digest) p.4) ∙ same ∙ ap (λ (h : Hashed). h.digest) q.4 in
        ap (λ (h : Hashed). h.string) p.4 ∙ behind_tag (codes "dnseed") _ _ (differ.seeds p.0 p.1 q.0 q.1 p.2 q.2 p.3 q.3 digests) ∙ sym (ap (λ (h : Hashed). h.string) q.4);
    ciphers = λ a b in_a in_b same.
        let p = cipher_behind a in_a in
        let q = cipher_behind b in_b in
        let digests : cipher_digest_of p.0 p.1 (bytes_of p.2) ≡ cipher_digest_of q.0 q.1 (bytes_of q.2) = sym (ap (λ (h : Hashed). h.digest) p.4) ∙ same ∙ ap (λ (h : Hashed). h.digest) q.4 in
        ap (λ (h : Hashed). h.string) p.4 ∙ behind_tag (codes "dnsub") _ _ (differ.ciphers p.0 p.1 q.0 q.1 p.2 q.2 p.3 q.3 digests) ∙ sym (ap (λ (h : Hashed). h.string) q.4);
    sums = λ a b in_a in_b same.
        let p = sum_behind a in_a in
        let q = sum_behind b in_b in
        let digests : server_digest_of p.0 p.1 (bytes_of p.2) ≡ server_digest_of q.0 q.1 (bytes_of q.2) = sym (ap (λ (h : Hashed). h.digest) p.4) ∙ same ∙ ap (λ (h : Hashed). h.digest) q.4 in
        ap (λ (h : Hashed). h.string) p.4 ∙ behind_tag (codes "dnsrv") _ _ (differ.sums p.0 p.1 q.0 q.1 p.2 q.2 p.3 q.3 digests) ∙ sym (ap (λ (h : Hashed). h.string) q.4);
  }

-- ---- the words

pub tells_right : (w : RunView) (a : AuditorView) → KnowsRun w a → TellsRight w a
tells_right w a knows = record {
  signed = (λ h. (signatures_so w).0 (knows.theirs.0 h), λ h. knows.theirs.1 ((signatures_so w).1 h));
  digests = λ yes so.
      let one = so knows.strings knows.tells in (
        λ h. digests_so w knows.strings knows.are (one.0 h),
        λ h. one.1 (none_collide w knows.strings knows.are h),
      );
}
