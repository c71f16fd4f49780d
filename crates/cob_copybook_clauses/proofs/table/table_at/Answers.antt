use Rattle.std.proofs.Common.{refl, sym, subst, List, ℕ, Option, option_map, ◌∷◌, ◌++◌}
use Rattle.cob_source.specs.Tokens.{lexemes}
use Rattle.cob_copybook_clauses.specs.Clauses.{IsVaried}
use Rattle.cob_copybook_clauses.specs.Written.{written_name}
use Rattle.cob_copybook_clauses.proofs.KeyLemmas.{table_parts, table_words, same_table}
use Rattle.cob_copybook_clauses.proofs.table.table_at.Goals as goal

pub returns-in_err-least-clause-only : goal.returns-in_err-least-clause-only
returns-in_err-least-clause-only c = λ t ws more is first e.
    let p = table_parts t (lexemes c.args.words.now) ws more is first e in
    absurd (c.in_err-least.ensures.only t.least t.most p.least p.most (p.times ++ (p.count ++ (p.keys ++ more))) p.least_is p.most_is p.no_to p.words_are)

pub returns-in_err-count-clause-only : goal.returns-in_err-count-clause-only
returns-in_err-count-clause-only c = λ t ws more is first e.
    let p = table_parts t (lexemes c.args.words.now) ws more is first e in
    let limits = c.in_ok-least.ensures.only t.least t.most p.least p.most (p.times ++ (p.count ++ (p.keys ++ more))) p.least_is p.most_is p.no_to p.words_are in
    let skipped = c.skip.ensures.only p.times (p.count ++ (p.keys ++ more)) p.noise p.no_times limits.2 in
    absurd (c.in_err-count.ensures.only t.count p.count (p.keys ++ more) (subst (λ (l : Option (List ℕ)). IsVaried t.count l p.count) (sym limits.0) p.varied) p.no_depending p.no_of skipped)

pub returns-clause-found : goal.returns-clause-found
returns-clause-found c =
    let (least, most, a, b, e) = c.in_ok-least.ensures.found in
    let (times, noise, f) = c.skip.ensures.found in
    let (count, varied, g) = c.in_ok-count.ensures.found in
    let (keys, keyed, h) = c.skip_keys.ensures.found in (
      least ++ most ∷ (times ++ (count ++ keys)),
      record {
        least = least;
        most = most;
        times = times;
        count = count;
        keys = keys;
        least_is = a;
        most_is = b;
        noise = noise;
        varied = varied;
        keyed = keyed;
        words = refl;
      },
      table_words _ _ _ _ _ least times count keys most e f g h,
    )

pub returns-clause-only : goal.returns-clause-only
returns-clause-only c = λ t ws more is first e.
    let p = table_parts t (lexemes c.args.words.now) ws more is first e in
    let limits = c.in_ok-least.ensures.only t.least t.most p.least p.most (p.times ++ (p.count ++ (p.keys ++ more))) p.least_is p.most_is p.no_to p.words_are in
    let skipped = c.skip.ensures.only p.times (p.count ++ (p.keys ++ more)) p.noise p.no_times limits.2 in
    let varied = c.in_ok-count.ensures.only t.count p.count (p.keys ++ more) (subst (λ (l : Option (List ℕ)). IsVaried t.count l p.count) (sym limits.0) p.varied) p.no_depending p.no_of skipped in (
      same_table t (option_map (λ b. b.now) c.in_ok-least.least) c.in_ok-least.most.now (option_map written_name c.in_ok-count.count) limits.0 limits.1 varied.0,
      c.skip_keys.ensures.only p.keys more p.keyed first varied.1,
    )
