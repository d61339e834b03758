mod House
