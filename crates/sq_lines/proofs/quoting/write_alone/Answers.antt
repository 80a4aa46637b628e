use Rattle.std.proofs.Common.{◌≢◌, ◌∙◌, ◌++◌, ◌∷◌, [], ap, sym}
use Rattle.std.proofs.Math.Logic.{∥∥₁_elim, ∥∥₁_map}
use Rattle.std.proofs.Props.{props}
use Rattle.std.proofs.lemmas.List.{append-nil}
use Rattle.csv.specs.declared.writer.QuoteStyle.TheVariants as style
use Rattle.sq_lines.proofs.CsvLemmas.{line_of_is_csv}
use Rattle.sq_lines.proofs.FieldLemmas.{quoted_line}
use Rattle.sq_lines.proofs.quoting.write_alone.Goals as goal

pub returns-clause-ready : goal.returns-clause-ready
returns-clause-ready c =
    let w = c.in-Ok.ensures in
    let f = c.in-Ok-flush.ensures in
    ∥∥₁_map c.requires.ready (λ r. (f.setup ∙ w.setup ∙ r.0, f.fields ∙ w.ended, f.wrote ∙ w.clean, f.pending))

pub returns-clause-text : goal.returns-clause-text
returns-clause-text c =
    let w = c.in-Ok.ensures in
    let f = c.in-Ok-flush.ensures in
    ∥∥₁_elim c.requires.ready (hlevel props) (λ r.
    let plain : c.args.writer.now.cfg.style ≢ style.NonNumeric = rw r.0 (λ e. cc e) in
    let bytes = rw (r.0, r.3, append-nil c.args.writer.now.wtr.inner.items) at (w.bytes r.1 r.2 plain) in
    let kept = rw (f.pending, append-nil c.flush.new.self.wtr.inner.items) at f.bytes in
    kept ∙ bytes ∙ ap (λ t. c.args.writer.now.wtr.inner.items ++ t) (sym (line_of_is_csv (c.args.field.now ∷ [])) ∙ quoted_line c.args.field.now c.requires.quoted))
