-- Each way out of the header's reader, by what its numbers say.
use Rattle.std.proofs.Common.{length, get_or, ap, inl, inr, ⊎_elim, arith}
use Rattle.pgm.proofs.Rests.{class_blank, class_not_blank}
use Rattle.pgm.proofs.Stages.{fail_1, fail_2, fail_3, fail_4, accepts}
use Rattle.pgm.proofs.header.read_header.Goals as goal

pub returns-in_default : goal.returns-in_default
returns-in_default c = record { is_the_header_or_where_it_ends = fail_1 c.args.bytes.now c.number.new.self.at c.in_default.ensures.scans_a_number }

pub returns-in_default-number : goal.returns-in_default-number
returns-in_default-number c = record {
  is_the_header_or_where_it_ends =
      fail_2 c.args.bytes.now c.in-Some.columns c.number.new.self.at c.in-Some.ensures.scans_a_number
      c.number.new.self.bytes.now c.number.ensures.keeps_the_bytes c.number-2.new.self.at c.in_default-number.ensures.scans_a_number;
}

pub returns-in_default-number-2 : goal.returns-in_default-number-2
returns-in_default-number-2 c = record {
  is_the_header_or_where_it_ends =
      fail_3 c.args.bytes.now c.in-Some.columns c.number.new.self.at c.in-Some.ensures.scans_a_number
      c.number.new.self.bytes.now c.number.ensures.keeps_the_bytes c.in-Some-number.rows c.number-2.new.self.at c.in-Some-number.ensures.scans_a_number
      c.number-2.new.self.bytes.now c.number-2.ensures.keeps_the_bytes c.number-3.new.self.at c.in_default-number-2.ensures.scans_a_number;
}

pub returns-in-Blank : goal.returns-in-Blank
returns-in-Blank c = record {
  is_the_header_or_where_it_ends = (
    omega (arith, c.in-Some-number-2.ensures.stops_at_a_byte, ap length c.number.ensures.keeps_the_bytes, ap length c.number-2.ensures.keeps_the_bytes),
    accepts c.args.bytes.now c.in-Some.columns c.number.new.self.at c.in-Some.ensures.scans_a_number
        c.number.new.self.bytes.now c.number.ensures.keeps_the_bytes c.in-Some-number.rows c.number-2.new.self.at c.in-Some-number.ensures.scans_a_number
        c.number-2.new.self.bytes.now c.number-2.ensures.keeps_the_bytes c.in-Some-number-2.top c.number-3.new.self.at c.in-Some-number-2.ensures.scans_a_number
        (class_blank (get_or c.args.bytes.now c.number-3.new.self.at 0) c.class_of.result c.class_of.ensures.is_the_class (⊎_elim inr inl c.in-Blank.is)),
  );
}

pub returns-in_default-class_of : goal.returns-in_default-class_of
returns-in_default-class_of c = record {
  is_the_header_or_where_it_ends =
      fail_4 c.args.bytes.now c.in-Some.columns c.number.new.self.at c.in-Some.ensures.scans_a_number
      c.number.new.self.bytes.now c.number.ensures.keeps_the_bytes c.in-Some-number.rows c.number-2.new.self.at c.in-Some-number.ensures.scans_a_number
      c.number-2.new.self.bytes.now c.number-2.ensures.keeps_the_bytes c.in-Some-number-2.top c.number-3.new.self.at c.in-Some-number-2.ensures.scans_a_number
      (class_not_blank (get_or c.args.bytes.now c.number-3.new.self.at 0) c.class_of.result c.class_of.ensures.is_the_class c.in_default-class_of.not-Newline c.in_default-class_of.not-Blank);
}
