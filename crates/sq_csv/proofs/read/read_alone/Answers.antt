use Rattle.std.proofs.Common.{◌∙◌, ap, inl, inr, Some, sym}
use Rattle.csv.specs.Reading.{Ready}
use Rattle.csv.specs.Records.{fields_of}
use Rattle.sq_csv.proofs.ReaderLemmas.{Starts, none_read, one_read, two_read, unmarked}
use Rattle.sq_csv.proofs.read.read_alone.Goals as goal

pub returns-then-not-found : goal.returns-then-not-found
returns-then-not-found c =
    let r = c.from_reader-reader.ensures in
    let e = c.flexible.ensures in
    let h = c.has_headers.ensures in
    let starts : Starts c.from_reader-reader.result c.args.line.now = record {
      config = rw (e, h) at r.config ∙ c.new.ensures.config;
      source = r.source ∙ ap Some (unmarked c.args.line.now c.requires);
      state = sym r.state;
    } in
    let ready : Ready c.from_reader-reader.result = inr (inr (rw (e, h) at r.has_headers, r.headers)) in
    let first = c.in-Ok.ensures.reads (rw (e, h) at r.trim ∙ c.new.ensures.trim) ready in
    sym (none_read c.from_reader-reader.result c.read_byte_record.new.self c.args.line.now (fields_of c.read_byte_record.new.row) starts (rw c.if-not-found.true at first))

pub returns-then-more : goal.returns-then-more
returns-then-more c =
    let r = c.from_reader-reader.ensures in
    let e = c.flexible.ensures in
    let h = c.has_headers.ensures in
    let starts : Starts c.from_reader-reader.result c.args.line.now = record {
      config = rw (e, h) at r.config ∙ c.new.ensures.config;
      source = r.source ∙ ap Some (unmarked c.args.line.now c.requires);
      state = sym r.state;
    } in
    let trim = rw (e, h) at r.trim ∙ c.new.ensures.trim in
    let ready : Ready c.from_reader-reader.result = inr (inr (rw (e, h) at r.has_headers, r.headers)) in
    let first = c.in-Ok.ensures.reads trim ready in
    let second = c.in-Ok-read_byte_record.ensures.reads (first.3 ∙ trim) (inl (c.in-Ok.ensures.ready trim)) in
    sym (two_read c.from_reader-reader.result c.read_byte_record.new.self c.read_byte_record-2.new.self c.args.line.now (fields_of c.read_byte_record.new.row)
    (fields_of c.read_byte_record-2.new.row) starts (rw c.if-not-found.false at first) (rw c.if-more.true at second))

pub returns : goal.returns
returns c =
    let r = c.from_reader-reader.ensures in
    let e = c.flexible.ensures in
    let h = c.has_headers.ensures in
    let starts : Starts c.from_reader-reader.result c.args.line.now = record {
      config = rw (e, h) at r.config ∙ c.new.ensures.config;
      source = r.source ∙ ap Some (unmarked c.args.line.now c.requires);
      state = sym r.state;
    } in
    let trim = rw (e, h) at r.trim ∙ c.new.ensures.trim in
    let ready : Ready c.from_reader-reader.result = inr (inr (rw (e, h) at r.has_headers, r.headers)) in
    let first = c.in-Ok.ensures.reads trim ready in
    let second = c.in-Ok-read_byte_record.ensures.reads (first.3 ∙ trim) (inl (c.in-Ok.ensures.ready trim)) in
    sym (one_read c.from_reader-reader.result c.read_byte_record.new.self c.read_byte_record-2.new.self c.args.line.now (fields_of c.read_byte_record.new.row)
    (fields_of c.read_byte_record-2.new.row) starts (rw c.if-not-found.false at first) (rw c.if-more.false at second))
