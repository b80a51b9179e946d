use Rattle.std.proofs.Common.{rules, ◌≡◌, ℕ, ◌<◌, length, map, get_or, Bor, ◌∙◌, arith}
use Rattle.std.proofs.lemmas.Grind.{common_steps}
use Rattle.std.proofs.lemmas.Simd.{map-map}
use Rattle.std.specs.Option.{option_map}
use Rattle.least.proofs.Best.{LeastOrNone-from_reduce}
use Rattle.least.proofs.search.least.Goals as goal

pub returns : goal.returns
returns g c =
    let R : Type 0 = ℕ × Bor g.row.T.Denot in
    let read = λ (r : Bor g.row.T.Denot). r.now in
    let run = c.reduce.ensures.runs in
    let numbers = c.enumerate.ensures.runs run.0 run.0.seen run.1 in
    let source = numbers.1 in
    let numbered : (k : ℕ) (d : R) → k < length run.0.items → (get_or run.0.items k d).0 ≡ k = λ k d inside. grind (arith, common_steps, run.0.reads k d, numbers.0 k) in
    let whole : c.iter.result.rest.now ≡ c.args.records.now = grind (arith, common_steps) in
    let read_all : map read source.0.items ≡ source.0.from.rest.now = (c.iter.ensures.runs source.0 source.0.seen).4 (source.2.1 ∙ run.2) in
    let records : map (λ (p : R). read p.1) run.0.items ≡ c.args.records.now = cc (map-map read (λ (p : R). p.1) run.0.items, source.2.0.1) in
    let place : c.map.result ≡ option_map (λ (p : R). p.0) c.reduce.result = search rules in
    record { answer = rw (place, ← records) (LeastOrNone-from_reduce read g.T.Order.at_most g.met.T.Order.total g.met.T.Order.transitive run.0 _ _ (λ b x r f k. search rules) numbered c.reduce.result run.3) }
