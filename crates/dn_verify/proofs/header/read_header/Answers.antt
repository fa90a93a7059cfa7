use Rattle.std.proofs.Common.{◌≡◌, ◌≤◌, ◌+◌, ◌*◌, ◌/◌, ◌%◌, ℕ, List, refl, sym, ap, ◌∙◌, inl, inr, arith}
use Rattle.std.proofs.lemmas.Result.{err_from_is_err_and}
use Rattle.dn_report.specs.declared.line.ReportLine.{ReportLine}
use Rattle.dn_verify.specs.declared.key_of.KeyOf.TheVariants.{Client, Server, Slot}
use Rattle.dn_verify.specs.declared.stop.Stop.{Stop}
use Rattle.dn_verify.specs.declared.stop.Stop.TheVariants.{Broken, NoMemory}
use Rattle.std.specs.Prelude.{slice_get}
use Rattle.dn_verify.specs.Header.{clients_of, servers_of, last_at, corrupt_in}
use Rattle.dn_verify.specs.Header.Place.{version, numbers, seal_of, corrupt}
use Rattle.dn_verify.specs.HeaderParts.{place_of, StopsInHeader}
use Rattle.dn_verify.proofs.HeaderLemmas.{RightBelow, at_version, at_numbers, extend, extend_one, nothing_below, places_of_clients, places_of_servers, places_of_slots, places_of_seals, place_of_corrupt, last_is, right_within, roster_told, wrong_at, wrong_in, wrong_or}
use Rattle.dn_verify.proofs.header.read_header.Goals as goal

pub returns-in_err-version-clause-stops : goal.returns-in_err-version-clause-stops
returns-in_err-version-clause-stops c =
    let ls = c.args.lines.now in
    let p = err_from_is_err_and c.from_residual.result c.from_residual.ensures.1 in
    rw (p.1, p.2)
    (wrong_at version ls 0 c.in_err-version.field-0.0 (nothing_below ls) c.in_err-version.ensures.wrong (at_version (clients_of ls) (servers_of ls)) (omega arith))

pub returns-in_err-sizes-clause-stops : goal.returns-in_err-sizes-clause-stops
returns-in_err-sizes-clause-stops c =
    let ls = c.args.lines.now in
    let one : RightBelow ls 1 = extend_one version ls 0 (nothing_below ls) c.in_ok-version.ensures.tells.0 (at_version (clients_of ls) (servers_of ls)) in
    let p = err_from_is_err_and c.from_residual-in_err-sizes.result c.from_residual-in_err-sizes.ensures.1 in
    rw (p.1, p.2)
    (wrong_at numbers ls 1 c.in_err-sizes.field-0.0 one c.in_err-sizes.ensures.wrong (at_numbers (clients_of ls) (servers_of ls)) (omega arith))

pub returns-in_err-client_keys-clause-stops : goal.returns-in_err-client_keys-clause-stops
returns-in_err-client_keys-clause-stops c =
    let ls = c.args.lines.now in
    let one : RightBelow ls 1 = extend_one version ls 0 (nothing_below ls) c.in_ok-version.ensures.tells.0 (at_version (clients_of ls) (servers_of ls)) in
    let two : RightBelow ls 2 = extend_one numbers ls 1 one c.in_ok-sizes.ensures.tells.0 (at_numbers (clients_of ls) (servers_of ls)) in
    let n = c.in_ok-sizes.sizes.clients in
    let m = c.in_ok-sizes.sizes.servers in
    let en = c.in_ok-sizes.ensures.tells.1.clients in
    let em = c.in_ok-sizes.ensures.tells.1.servers in
    let last = last_is ls n m en em in
    let p = err_from_is_err_and c.from_residual-in_err-client_keys.result c.from_residual-in_err-client_keys.ensures.1 in
    rw (p.1, p.2)
    (wrong_in (place_of Client) ls 2 n c.in_err-client_keys.field-0.0 two c.in_err-client_keys.ensures.stops (places_of_clients ls n m en em) (omega (arith, last)))

pub returns-in_err-server_keys-clause-stops : goal.returns-in_err-server_keys-clause-stops
returns-in_err-server_keys-clause-stops c =
    let ls = c.args.lines.now in
    let one : RightBelow ls 1 = extend_one version ls 0 (nothing_below ls) c.in_ok-version.ensures.tells.0 (at_version (clients_of ls) (servers_of ls)) in
    let two : RightBelow ls 2 = extend_one numbers ls 1 one c.in_ok-sizes.ensures.tells.0 (at_numbers (clients_of ls) (servers_of ls)) in
    let n = c.in_ok-sizes.sizes.clients in
    let m = c.in_ok-sizes.sizes.servers in
    let en = c.in_ok-sizes.ensures.tells.1.clients in
    let em = c.in_ok-sizes.ensures.tells.1.servers in
    let last = last_is ls n m en em in
    let three : RightBelow ls (2 + n) =
    extend (place_of Client) ls 2 n two c.in_ok-client_keys.ensures.tells (places_of_clients ls n m en em) in
    let p = err_from_is_err_and c.from_residual-in_err-server_keys.result c.from_residual-in_err-server_keys.ensures.1 in
    rw (p.1, p.2)
    (wrong_in (place_of Server) ls (2 + n) m c.in_err-server_keys.field-0.0 three c.in_err-server_keys.ensures.stops (places_of_servers ls n m en em) (omega (arith, last)))

pub returns-in_err-slots-clause-stops : goal.returns-in_err-slots-clause-stops
returns-in_err-slots-clause-stops c =
    let ls = c.args.lines.now in
    let one : RightBelow ls 1 = extend_one version ls 0 (nothing_below ls) c.in_ok-version.ensures.tells.0 (at_version (clients_of ls) (servers_of ls)) in
    let two : RightBelow ls 2 = extend_one numbers ls 1 one c.in_ok-sizes.ensures.tells.0 (at_numbers (clients_of ls) (servers_of ls)) in
    let n = c.in_ok-sizes.sizes.clients in
    let m = c.in_ok-sizes.sizes.servers in
    let en = c.in_ok-sizes.ensures.tells.1.clients in
    let em = c.in_ok-sizes.ensures.tells.1.servers in
    let last = last_is ls n m en em in
    let three : RightBelow ls (2 + n) =
    extend (place_of Client) ls 2 n two c.in_ok-client_keys.ensures.tells (places_of_clients ls n m en em) in
    let four : RightBelow ls (2 + n + m) =
    extend (place_of Server) ls (2 + n) m three c.in_ok-server_keys.ensures.tells (places_of_servers ls n m en em) in
    let p = err_from_is_err_and c.from_residual-in_err-slots.result c.from_residual-in_err-slots.ensures.1 in
    rw (p.1, p.2)
    (wrong_in (place_of Slot) ls (2 + n + m) n c.in_err-slots.field-0.0 four c.in_err-slots.ensures.stops (places_of_slots ls n m en em) (omega (arith, last)))

pub returns-in_err-seals-clause-stops : goal.returns-in_err-seals-clause-stops
returns-in_err-seals-clause-stops c =
    let ls = c.args.lines.now in
    let one : RightBelow ls 1 = extend_one version ls 0 (nothing_below ls) c.in_ok-version.ensures.tells.0 (at_version (clients_of ls) (servers_of ls)) in
    let two : RightBelow ls 2 = extend_one numbers ls 1 one c.in_ok-sizes.ensures.tells.0 (at_numbers (clients_of ls) (servers_of ls)) in
    let n = c.in_ok-sizes.sizes.clients in
    let m = c.in_ok-sizes.sizes.servers in
    let en = c.in_ok-sizes.ensures.tells.1.clients in
    let em = c.in_ok-sizes.ensures.tells.1.servers in
    let last = last_is ls n m en em in
    let three : RightBelow ls (2 + n) =
    extend (place_of Client) ls 2 n two c.in_ok-client_keys.ensures.tells (places_of_clients ls n m en em) in
    let four : RightBelow ls (2 + n + m) =
    extend (place_of Server) ls (2 + n) m three c.in_ok-server_keys.ensures.tells (places_of_servers ls n m en em) in
    let five : RightBelow ls (2 + n + m + n) =
    extend (place_of Slot) ls (2 + n + m) n four c.in_ok-slots.ensures.tells (places_of_slots ls n m en em) in
    let p = err_from_is_err_and c.from_residual-in_err-seals.result c.from_residual-in_err-seals.ensures.1 in
    rw (p.1, p.2)
    (wrong_in (λ k. seal_of (k / m) (k % m)) ls (2 + n + m + n) (n * m) c.in_err-seals.field-0.0 five c.in_err-seals.ensures.stops (places_of_seals ls n m en em) (omega (arith, last)))

pub returns-in_err-corrupt-clause-stops : goal.returns-in_err-corrupt-clause-stops
returns-in_err-corrupt-clause-stops c =
    let ls = c.args.lines.now in
    let one : RightBelow ls 1 = extend_one version ls 0 (nothing_below ls) c.in_ok-version.ensures.tells.0 (at_version (clients_of ls) (servers_of ls)) in
    let two : RightBelow ls 2 = extend_one numbers ls 1 one c.in_ok-sizes.ensures.tells.0 (at_numbers (clients_of ls) (servers_of ls)) in
    let n = c.in_ok-sizes.sizes.clients in
    let m = c.in_ok-sizes.sizes.servers in
    let en = c.in_ok-sizes.ensures.tells.1.clients in
    let em = c.in_ok-sizes.ensures.tells.1.servers in
    let last = last_is ls n m en em in
    let three : RightBelow ls (2 + n) =
    extend (place_of Client) ls 2 n two c.in_ok-client_keys.ensures.tells (places_of_clients ls n m en em) in
    let four : RightBelow ls (2 + n + m) =
    extend (place_of Server) ls (2 + n) m three c.in_ok-server_keys.ensures.tells (places_of_servers ls n m en em) in
    let five : RightBelow ls (2 + n + m + n) =
    extend (place_of Slot) ls (2 + n + m) n four c.in_ok-slots.ensures.tells (places_of_slots ls n m en em) in
    let six : RightBelow ls (2 + n + m + n + n * m) =
    extend (λ k. seal_of (k / m) (k % m)) ls (2 + n + m + n) (n * m) five c.in_ok-seals.ensures.tells (places_of_seals ls n m en em) in
    let p = err_from_is_err_and c.from_residual-in_err-corrupt.result c.from_residual-in_err-corrupt.ensures.1 in
    rw (p.1, p.2)
    (wrong_or corrupt ls (2 + n + m + n + n * m) c.in_err-corrupt.field-0.0 six c.in_err-corrupt.ensures.wrong (place_of_corrupt ls n m en em) (omega (arith, last)))

pub returns-clause-header : goal.returns-clause-header
returns-clause-header c =
    let ls = c.args.lines.now in
    let one : RightBelow ls 1 = extend_one version ls 0 (nothing_below ls) c.in_ok-version.ensures.tells.0 (at_version (clients_of ls) (servers_of ls)) in
    let two : RightBelow ls 2 = extend_one numbers ls 1 one c.in_ok-sizes.ensures.tells.0 (at_numbers (clients_of ls) (servers_of ls)) in
    let n = c.in_ok-sizes.sizes.clients in
    let m = c.in_ok-sizes.sizes.servers in
    let en = c.in_ok-sizes.ensures.tells.1.clients in
    let em = c.in_ok-sizes.ensures.tells.1.servers in
    let last = last_is ls n m en em in
    let three : RightBelow ls (2 + n) =
    extend (place_of Client) ls 2 n two c.in_ok-client_keys.ensures.tells (places_of_clients ls n m en em) in
    let four : RightBelow ls (2 + n + m) =
    extend (place_of Server) ls (2 + n) m three c.in_ok-server_keys.ensures.tells (places_of_servers ls n m en em) in
    let five : RightBelow ls (2 + n + m + n) =
    extend (place_of Slot) ls (2 + n + m) n four c.in_ok-slots.ensures.tells (places_of_slots ls n m en em) in
    let six : RightBelow ls (2 + n + m + n + n * m) =
    extend (λ k. seal_of (k / m) (k % m)) ls (2 + n + m + n) (n * m) five c.in_ok-seals.ensures.tells (places_of_seals ls n m en em) in
    let seven : RightBelow ls (2 + n + m + n + n * m + 1) =
    extend_one corrupt ls (2 + n + m + n + n * m) six c.in_ok-corrupt.ensures.tells.0 (place_of_corrupt ls n m en em) in
    let numbered = c.in_ok-sizes.ensures.tells.1 in
    record {
      right = seven;
      whole = ap (λ (q : ℕ). q + 1) last;
      within = right_within ls (2 + n + m + n + n * m + 1) seven;
      tells = c.make-roster.ensures
          ∙ roster_told ls c.in_ok-version.version c.in_ok-sizes.sizes.ots c.in_ok-sizes.sizes.client_lms c.in_ok-sizes.sizes.server_lms n m
          c.in_ok-client_keys.client_keys.items c.in_ok-server_keys.server_keys.items c.in_ok-slots.slots.items c.in_ok-seals.seals.items
          c.in_ok-version.ensures.tells.1 numbered.ots numbered.client_lms numbered.server_lms en em
          c.in_ok-client_keys.ensures.keys c.in_ok-server_keys.ensures.keys c.in_ok-slots.ensures.keys c.in_ok-seals.ensures.seals;
      names = c.in_ok-corrupt.ensures.tells.1 ∙ ap (λ (k : ℕ). corrupt_in (slice_get ls k)) last;
    }
