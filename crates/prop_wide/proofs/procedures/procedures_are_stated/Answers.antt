use Rattle.std.proofs.Common.{arith, refl}
use Rattle.prop_wide.specs.Procedures.{IsFormed, in_order}
use Rattle.prop_wide.proofs.Tables.{all_from}
use Rattle.prop_wide.proofs.procedures.procedures_are_stated.Goals as goal

pub returns-clause-formed : goal.returns-clause-formed
returns-clause-formed c = all_from IsFormed in_order (
  record { has_inputs = refl; some = omega arith; few = omega arith },
  (
    record { has_inputs = refl; some = omega arith; few = omega arith },
    (
      record { has_inputs = refl; some = omega arith; few = omega arith },
      (
        record { has_inputs = refl; some = omega arith; few = omega arith },
        (
          record { has_inputs = refl; some = omega arith; few = omega arith },
          (
            record { has_inputs = refl; some = omega arith; few = omega arith },
            (
              record { has_inputs = refl; some = omega arith; few = omega arith },
              (
                record { has_inputs = refl; some = omega arith; few = omega arith },
                (
                  record { has_inputs = refl; some = omega arith; few = omega arith },
                  (
                    record { has_inputs = refl; some = omega arith; few = omega arith },
                    (
                      record { has_inputs = refl; some = omega arith; few = omega arith },
                      (
                        record { has_inputs = refl; some = omega arith; few = omega arith },
                        (
                          record { has_inputs = refl; some = omega arith; few = omega arith },
                          (
                            record { has_inputs = refl; some = omega arith; few = omega arith },
                            (
                              record { has_inputs = refl; some = omega arith; few = omega arith },
                              (
                                record { has_inputs = refl; some = omega arith; few = omega arith },
                                (
                                  record { has_inputs = (refl, refl); some = omega arith; few = omega arith },
                                  (
                                    record { has_inputs = (refl, refl); some = omega arith; few = omega arith },
                                    (
                                      record { has_inputs = (refl, refl); some = omega arith; few = omega arith },
                                      (
                                        record { has_inputs = (refl, refl); some = omega arith; few = omega arith },
                                        (
                                          record { has_inputs = (refl, refl); some = omega arith; few = omega arith },
                                          (
                                            record { has_inputs = (refl, refl); some = omega arith; few = omega arith },
                                            (
                                              record {
                                                has_inputs = (refl, refl);
                                                some = omega arith;
                                                few =
                                                    omega arith;
                                              },
                                              (
                                                record {
                                                  has_inputs = (refl, refl);
                                                  some = omega arith;
                                                  few =
                                                      omega arith;
                                                },
                                                (
                                                  record { has_inputs = refl; some = omega arith; few = omega arith },
                                                  (
                                                    record { has_inputs = refl; some = omega arith; few = omega arith },
                                                    (
                                                      record {
                                                        has_inputs = refl;
                                                        some = omega arith;
                                                        few =
                                                            omega arith;
                                                      },
                                                      (
                                                        record {
                                                          has_inputs = refl;
                                                          some = omega arith;
                                                          few =
                                                              omega arith;
                                                        },
                                                        (
                                                          record {
                                                            has_inputs = refl;
                                                            some = omega arith;
                                                            few =
                                                                omega arith;
                                                          },
                                                          (
                                                              tt),
                                                        ),
                                                      ),
                                                    ),
                                                  ),
                                                ),
                                              ),
                                            ),
                                          ),
                                        ),
                                      ),
                                    ),
                                  ),
                                ),
                              ),
                            ),
                          ),
                        ),
                      ),
                    ),
                  ),
                ),
              ),
            ),
          ),
        ),
      ),
    ),
  ),
)
