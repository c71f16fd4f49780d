use Rattle.std.proofs.Common.{rules, ◌+◌, drop, map}
use Rattle.std.specs.List.{flat_map}
use Rattle.std.proofs.lemmas.Result.{err_from_is_err_and}
use Rattle.cob_copybook_conditions.specs.Names.{plain_condition_name}
use Rattle.cob_report_show.specs.Conditions.{name_line_of}
use Rattle.cob_report_show.proofs.TextLemmas.{all_text, cut_text, more_text, no_text, no_texts_left, texts_left}
use Rattle.cob_report_show.proofs.conditions.put_names.Goals as goal

pub loop-name-init : goal.loop-name-init
loop-name-init g c = record {
  so_far = no_text (flat_map (name_line_of c.args.number) (map plain_condition_name c.args.names.now)) c.args.sent.now (g.W.Sink.taken c.args.sink.now);
  writes = search rules;
  errors = search rules;
}

pub loop-name-preserved : goal.loop-name-preserved
loop-name-preserved g c =
    let texts = c.args.names.now in
    let i = c.loop-name.name-index in
    record {
      so_far = more_text (flat_map (name_line_of c.args.number) (map plain_condition_name texts)) (flat_map (name_line_of c.args.number) (map plain_condition_name (drop i texts))) (name_line_of c.args.number (plain_condition_name c.name-item.result)) (flat_map (name_line_of c.args.number) (map plain_condition_name (drop (i + 1) texts)))
          c.args.sent.now c.loop-name.sent c.put_name_of.new.sent _ _ _ c.loop-name.invariant.so_far
          (texts_left plain_condition_name (name_line_of c.args.number) texts i c.name-item.result c.loop-name-test.true c.name-item.is) c.in_ok-put_name_of.ensures.lines;
      writes = search rules;
      errors = search rules;
    }

pub returns-in_err-put_name_of-clause-lines : goal.returns-in_err-put_name_of-clause-lines
returns-in_err-put_name_of-clause-lines g c =
    let texts = c.args.names.now in
    let i = c.loop-name.name-index in
    let p = err_from_is_err_and c.from_residual.result c.from_residual.ensures.1 in
    rw p.1 (cut_text (flat_map (name_line_of c.args.number) (map plain_condition_name texts)) (flat_map (name_line_of c.args.number) (map plain_condition_name (drop i texts))) (name_line_of c.args.number (plain_condition_name c.name-item.result)) (flat_map (name_line_of c.args.number) (map plain_condition_name (drop (i + 1) texts)))
    c.args.sent.now c.loop-name.sent c.put_name_of.new.sent c.in_err-put_name_of.field-0.0 _ _ _ c.loop-name.invariant.so_far
    (texts_left plain_condition_name (name_line_of c.args.number) texts i c.name-item.result c.loop-name-test.true c.name-item.is) c.in_err-put_name_of.ensures.lines)

pub returns-clause-lines : goal.returns-clause-lines
returns-clause-lines g c =
    all_text (flat_map (name_line_of c.args.number) (map plain_condition_name c.args.names.now)) (flat_map (name_line_of c.args.number) (map plain_condition_name (drop c.loop-name.name-index c.args.names.now))) c.args.sent.now c.loop-name.sent _ _
    c.loop-name.invariant.so_far (no_texts_left plain_condition_name (name_line_of c.args.number) c.args.names.now c.loop-name.name-index c.loop-name-test.false)
